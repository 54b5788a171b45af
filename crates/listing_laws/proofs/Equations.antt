-- The equations between listings.
use Rattle.std.proofs.Common.{ℕ, List, map}
use Rattle.spec_syntax.specs.Expression as expr
use Rattle.spec_syntax.specs.Expression.{Expression, Expressions, no_expressions, more_expressions}
use Rattle.spec_syntax.specs.Grammar.{Grammar}
use Rattle.struct_model.specs.Structure.{Structure}
use Rattle.struct_model.specs.Listing.{Lists}
use Rattle.struct_model.proofs.ListingLaws.{one_listing}
use Rattle.listing_laws.specs.Lister.{list_no_components, alternatives, by_splits, product}
use Rattle.listing_laws.specs.Laws.{UnionIsListed, ListsSplits, ProdIsListed, WordsAreListed}
use Rattle.lists.proofs.Ascending.{Rises}
use Rattle.splits.proofs.SplitLaws.{splits_are}
use Rattle.listing_laws.proofs.Arguments.{union_is}
use Rattle.listing_laws.proofs.Components.{no_components_are, by_splits_are, products_are, components_are}
use Rattle.listing_laws.proofs.RuleLaws.{rule_lists}
use Rattle.listing_laws.proofs.Words.{epsilon_lists, atom_lists}
use Rattle.struct_model.proofs.SupplyLaws.{supply_rises}

pub union_is_listed : UnionIsListed
union_is_listed = record {
  lists = λ g es u each h. union_is g u es each h;
  only = λ g es u each ss h l. one_listing g (expr.Union es) u ss (alternatives 1 each) l (union_is g u es each h);
}

prod_lists : (g : Grammar) (e : Expression) (es : Expressions) (u : List ℕ) (first : List ℕ → List Structure) (others : List ℕ → List (List Structure))
    → Rises u → ListsSplits g e es u first others → Lists g (expr.Prod (more_expressions e es)) u (map product (by_splits first others u))
prod_lists g e es u first others rises h =
    products_are g (more_expressions e es) u (by_splits first others u)
    (by_splits_are g e es u first others rises
    (λ split s. (h split ((splits_are u rises).complete split s)).0)
    (λ split s. components_are g es split.rest (others split.rest) (h split ((splits_are u rises).complete split s)).1))

pub prod_is_listed : ProdIsListed
prod_is_listed = record {
  empty = λ g u. products_are g no_expressions u (list_no_components u) (no_components_are g u);
  lists = λ g e es u first others supplied h. prod_lists g e es u first others (supply_rises g.universe u supplied) h;
  only = λ g e es u first others ss supplied h l.
      one_listing g (expr.Prod (more_expressions e es)) u ss (map product (by_splits first others u)) l (prod_lists g e es u first others (supply_rises g.universe u supplied) h);
}

pub words_are_listed : WordsAreListed
words_are_listed = record {
  epsilon = epsilon_lists;
  atom = λ g u supplied. atom_lists g u supplied;
  name = λ g name n right u ss numbered sided l. rule_lists g name n right numbered sided u ss l;
}
