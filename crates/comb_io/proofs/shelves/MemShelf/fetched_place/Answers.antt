use Rattle.std.proofs.Common.{◌||◌, is_none, sym, ap, ◌∙◌}
use Rattle.comb_io.specs.Memory.{is_failing}
use Rattle.comb_io.specs.Shelves.{newest}
use Rattle.comb_io.proofs.Newest.{newest-position}
use Rattle.comb_io.proofs.shelves.MemShelf.fetched_place.Goals as goal

pub returns-clause-none : goal.returns-clause-none
returns-clause-none c =
    let files = c.args.self.now.files in
    let chosen = sym c.if-next_fails.false ∙ c.next_fails.ensures ∙ ap (λ shelf. is_failing shelf.calls) c.self.view_is in
    let found = newest-position c.args.name.now files c.place_of.result c.place_of.ensures in
    found.0 ∙ ap (λ fails. fails || is_none (newest files c.args.name.now)) chosen

pub returns-clause-bytes : goal.returns-clause-bytes
returns-clause-bytes c = (newest-position c.args.name.now c.args.self.now.files c.place_of.result c.place_of.ensures).1
