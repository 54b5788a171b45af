-- The numbers of a class say something, and no two things.
use Rattle.std.proofs.Common.{◌≡◌, ℕ, suc, Bool, true, false, List, [], ◌∷◌, length, Some, refl, sym, ap, ◌∙◌, arith}
use Rattle.std.specs.Option.{option_map}
use Rattle.std.proofs.Math.ListN.{set}
use Rattle.spec_syntax.specs.Rules.{all_nodes}
use Rattle.spec_syntax.specs.Nodes.{right_node}
use Rattle.spec_syntax.proofs.NodesLemmas.{right_node_is}
use Rattle.spec_syntax.proofs.RulesLemmas.{some_right}
use Rattle.std.proofs.lemmas.Option.{slice_get_within}
use Rattle.graphs.specs.Graph.{IsMarked}
use Rattle.graphs.proofs.Reached.{marks_exist}
use Rattle.size_counts.specs.Reached.{below_graph}
use Rattle.size_counts.specs.Numbers.{first_large, place_of}
use Rattle.size_counts.specs.Laws.{SaysSome, SaysOne}
use Rattle.size_counts.proofs.ReachedLemmas.{below_is_graph, reached_all}

same_marks : (xs ys : List Bool) → length xs ≡ length ys → ((j : ℕ) → IsMarked xs j → IsMarked ys j) → ((j : ℕ) → IsMarked ys j → IsMarked xs j) → xs ≡ ys
same_marks [] [] same to from = refl
same_marks [] (y ∷ ys) same to from = absurd (omega arith)
same_marks (x ∷ xs) [] same to from = absurd (omega arith)
same_marks (true ∷ xs) (true ∷ ys) same to from = ap (λ (rest : List Bool). true ∷ rest) (same_marks xs ys (omega arith) (λ j. to (suc j)) (λ j. from (suc j)))
same_marks (false ∷ xs) (false ∷ ys) same to from = ap (λ (rest : List Bool). false ∷ rest) (same_marks xs ys (omega arith) (λ j. to (suc j)) (λ j. from (suc j)))
same_marks (true ∷ xs) (false ∷ ys) same to from = absurd (let e : Some false ≡ Some true = to 0 refl in cc)
same_marks (false ∷ xs) (true ∷ ys) same to from = absurd (let e : Some false ≡ Some true = from 0 refl in cc)

pub says_some : SaysSome
says_some g number n spec low high =
    let right = some_right g.rules number low high in
    let within = slice_get_within (all_nodes g.rules) (right_node g.rules number) right.0 (right_node_is g.rules number right.0 right.1) in
    let marks = marks_exist (below_graph g.rules) (below_is_graph g.rules) (right_node g.rules number) in
    (option_map (place_of g.rules) (first_large g (set marks.0 (right_node g.rules number) true) n), record { marks = set marks.0 (right_node g.rules number) true; reached = reached_all g.rules number marks.0 within marks.1; found = refl })

pub says_one : SaysOne
says_one g number n said other one two =
    let same : one.marks ≡ two.marks = same_marks one.marks two.marks (one.reached.for_each ∙ sym two.reached.for_each)
    (λ j marked. two.reached.complete j (one.reached.sound j marked)) (λ j marked. one.reached.complete j (two.reached.sound j marked)) in
    one.found ∙ ap (λ (marks : List Bool). option_map (place_of g.rules) (first_large g marks n)) same ∙ sym two.found
