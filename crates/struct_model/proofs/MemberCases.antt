-- Worked cases of membership and listing, by computing.
use Rattle.std.specs.Prelude.{◌≡◌, ℕ, Bool, true, false, List, [], ◌∷◌, refl, codes, Some, None}
use Rattle.spec_syntax.specs.declared.statement.Universe.{Universe}
use Rattle.spec_syntax.specs.declared.statement.Universe.TheVariants.{Labelled, Unlabelled}
use Rattle.spec_syntax.specs.declared.expr.Kind.{Kind}
use Rattle.spec_syntax.specs.declared.expr.Kind.TheVariants as kind
use Rattle.spec_syntax.specs.declared.expr.Card.{Card}
use Rattle.spec_syntax.specs.Expression as expr
use Rattle.spec_syntax.specs.Expression.{Expression, expressions_of}
use Rattle.spec_syntax.specs.Grammar.{Grammar}
use Rattle.struct_model.specs.declared.tree.Form5.TheVariants as form
use Rattle.struct_model.specs.Structure.{Structure, Eps, Atom, Named, Alt, Tup, parts_of}
use Rattle.struct_model.specs.Membership.{is_of, is_member, supply, is_supply}
use Rattle.struct_model.specs.Bounded.{listing_within}

abbrev class : Universe → List (List ℕ × Expression) → Grammar
class universe rules = record { rules = rules; universe = universe }

abbrev product : List Structure → Structure
product ss = Tup form.Prod (parts_of ss)

abbrev sequence : List Structure → Structure
sequence ss = Tup form.Sequence (parts_of ss)

abbrev set : List Structure → Structure
set ss = Tup form.Set (parts_of ss)

abbrev cycle : List Structure → Structure
cycle ss = Tup form.Cycle (parts_of ss)

-- ---- binary trees: B = Union(Z, Prod(B, B))

abbrev binary : Grammar
binary = class Unlabelled ((codes "B", expr.Union (expressions_of (expr.Atom ∷ expr.Prod (expressions_of (expr.Name (codes "B") ∷ expr.Name (codes "B") ∷ [])) ∷ []))) ∷ [])

abbrev pub leaf : Structure
leaf = Named 1 (Alt 1 (Atom 0 0))

abbrev pub fork : Structure → Structure → Structure
fork a b = Named 1 (Alt 2 (product (a ∷ b ∷ [])))

right_comb : is_member binary (codes "B") 3 (fork leaf (fork leaf leaf)) ≡ true
right_comb = refl

left_comb : is_member binary (codes "B") 3 (fork (fork leaf leaf) leaf) ≡ true
left_comb = refl

tree_of_size_2 : is_member binary (codes "B") 3 (fork leaf leaf) ≡ false
tree_of_size_2 = refl

tree_of_size_4 : is_member binary (codes "B") 3 (fork (fork leaf leaf) (fork leaf leaf)) ≡ false
tree_of_size_4 = refl

-- the argument that was taken isn't the one that is named
wrong_argument : is_member binary (codes "B") 3 (Named 1 (Alt 1 (product (leaf ∷ fork leaf leaf ∷ [])))) ≡ false
wrong_argument = refl

no_argument : is_member binary (codes "B") 3 (fork leaf (Named 1 (Alt 3 (product (leaf ∷ leaf ∷ []))))) ≡ false
no_argument = refl

argument_0 : is_member binary (codes "B") 1 (Named 1 (Alt 0 (Atom 0 0))) ≡ false
argument_0 = refl

-- the rule isn't told
no_rule : is_member binary (codes "B") 3 (Alt 2 (product (leaf ∷ fork leaf leaf ∷ []))) ≡ false
no_rule = refl

wrong_rule : is_member binary (codes "B") 1 (Named 2 (Alt 1 (Atom 0 0))) ≡ false
wrong_rule = refl

unknown_class : is_member binary (codes "C") 1 leaf ≡ false
unknown_class = refl

three_components : is_member binary (codes "B") 3 (Named 1 (Alt 2 (product (leaf ∷ leaf ∷ leaf ∷ [])))) ≡ false
three_components = refl

wrong_form : is_member binary (codes "B") 2 (Named 1 (Alt 2 (sequence (leaf ∷ leaf ∷ [])))) ≡ false
wrong_form = refl

labelled_leaf : is_member binary (codes "B") 1 (Named 1 (Alt 1 (Atom 0 1))) ≡ false
labelled_leaf = refl

-- ---- permutations: P = Set(Cycle(Z)), labelled

abbrev any_number : Card
any_number = record { low = 0; high = None }

abbrev permutations : Grammar
permutations = class Labelled ((codes "P", expr.Many kind.Set (expr.Many kind.Cycle expr.Atom any_number) any_number) ∷ [])

abbrev ring1 : ℕ → Structure
ring1 a = cycle (Atom 0 a ∷ [])

abbrev ring2 : ℕ → ℕ → Structure
ring2 a b = cycle (Atom 0 a ∷ Atom 0 b ∷ [])

abbrev ring3 : ℕ → ℕ → ℕ → Structure
ring3 a b c = cycle (Atom 0 a ∷ Atom 0 b ∷ Atom 0 c ∷ [])

abbrev is_permutation : ℕ → List Structure → Bool
is_permutation n rings = is_member permutations (codes "P") n (Named 1 (set rings))

no_ring : is_permutation 0 [] ≡ true
no_ring = refl

two_rings : is_permutation 2 (ring1 1 ∷ ring1 2 ∷ []) ≡ true
two_rings = refl

one_ring : is_permutation 2 (ring2 1 2 ∷ []) ≡ true
one_ring = refl

ring_and_fixed_point : is_permutation 3 (ring2 1 3 ∷ ring1 2 ∷ []) ≡ true
ring_and_fixed_point = refl

ring_of_three : is_permutation 3 (ring3 1 3 2 ∷ []) ≡ true
ring_of_three = refl

set_out_of_order : is_permutation 2 (ring1 2 ∷ ring1 1 ∷ []) ≡ false
set_out_of_order = refl

set_out_of_order_3 : is_permutation 3 (ring1 2 ∷ ring2 1 3 ∷ []) ≡ false
set_out_of_order_3 = refl

not_least_rotation : is_permutation 2 (ring2 2 1 ∷ []) ≡ false
not_least_rotation = refl

not_least_rotation_3 : is_permutation 3 (ring3 3 2 1 ∷ []) ≡ false
not_least_rotation_3 = refl

empty_ring : is_permutation 1 (cycle [] ∷ ring1 1 ∷ []) ≡ false
empty_ring = refl

permutation_of_wrong_size : is_permutation 3 (ring1 1 ∷ ring1 2 ∷ []) ≡ false
permutation_of_wrong_size = refl

label_twice : is_permutation 2 (ring1 1 ∷ ring1 1 ∷ []) ≡ false
label_twice = refl

label_left_out : is_permutation 2 (ring1 1 ∷ ring1 3 ∷ []) ≡ false
label_left_out = refl

label_0 : is_permutation 2 (ring2 0 1 ∷ []) ≡ false
label_0 = refl

-- ---- rules that are words: T = Union(A, Prod(Z, A, E)), A = Atom, E = Epsilon

abbrev worded : Grammar
worded = class Unlabelled (
    (codes "T", expr.Union (expressions_of (expr.Name (codes "A") ∷ expr.Prod (expressions_of (expr.Atom ∷ expr.Name (codes "A") ∷ expr.Name (codes "E") ∷ [])) ∷ [])))
    ∷ (codes "A", expr.Atom)
    ∷ (codes "E", expr.Epsilon)
    ∷ [])

abbrev triple : Structure → Structure → Structure → Structure
triple a b c = Named 1 (Alt 2 (product (a ∷ b ∷ c ∷ [])))

rules_of_words : is_member worded (codes "T") 2 (triple (Atom 0 0) (Atom 2 0) (Eps 3)) ≡ true
rules_of_words = refl

word_for_rule : is_member worded (codes "T") 2 (triple (Atom 0 0) (Atom 2 0) (Eps 0)) ≡ false
word_for_rule = refl

rule_for_word : is_member worded (codes "T") 2 (triple (Atom 2 0) (Atom 2 0) (Eps 3)) ≡ false
rule_for_word = refl

rule_of_word_named : is_member worded (codes "T") 2 (triple (Atom 0 0) (Atom 2 0) (Named 3 (Eps 0))) ≡ false
rule_of_word_named = refl

rule_of_epsilon : is_member worded (codes "E") 0 (Eps 3) ≡ true
rule_of_epsilon = refl

rule_of_atom : is_member worded (codes "A") 1 (Atom 2 0) ≡ true
rule_of_atom = refl

-- ---- a rule named Z is a rule like any other: Z = Prod(Atom, Atom), D = Z

abbrev doubled : Grammar
doubled = class Unlabelled ((codes "Z", expr.Prod (expressions_of (expr.Atom ∷ expr.Atom ∷ []))) ∷ (codes "D", expr.Name (codes "Z")) ∷ [])

rule_Z : is_member doubled (codes "D") 2 (Named 2 (Named 1 (product (Atom 0 0 ∷ Atom 0 0 ∷ [])))) ≡ true
rule_Z = refl

word_Z : is_member doubled (codes "D") 1 (Named 2 (Atom 0 0)) ≡ false
word_Z = refl

-- ---- containers: sets of nonempty sequences, unlabelled

abbrev no_rules : Grammar
no_rules = class Unlabelled []

abbrev exactly_2 : Card
exactly_2 = record { low = 2; high = Some 2 }

abbrev at_most_2 : Card
at_most_2 = record { low = 0; high = Some 2 }

abbrev at_least_2 : Card
at_least_2 = record { low = 2; high = None }

abbrev z : Structure
z = Atom 0 0

abbrev many : Kind → Expression
many container = expr.Many container (expr.Many kind.Sequence expr.Atom any_number) any_number

power_set_without_repeat : is_of no_rules (many kind.PowerSet) (Tup form.PowerSet (parts_of (sequence (z ∷ []) ∷ sequence (z ∷ z ∷ []) ∷ []))) ≡ true
power_set_without_repeat = refl

power_set_with_repeat : is_of no_rules (many kind.PowerSet) (Tup form.PowerSet (parts_of (sequence (z ∷ []) ∷ sequence (z ∷ []) ∷ []))) ≡ false
power_set_with_repeat = refl

power_set_out_of_order : is_of no_rules (many kind.PowerSet) (Tup form.PowerSet (parts_of (sequence (z ∷ z ∷ []) ∷ sequence (z ∷ []) ∷ []))) ≡ false
power_set_out_of_order = refl

set_with_repeat : is_of no_rules (many kind.Set) (set (sequence (z ∷ []) ∷ sequence (z ∷ []) ∷ [])) ≡ true
set_with_repeat = refl

unlabelled_cycle : is_of no_rules (many kind.Cycle) (cycle (sequence (z ∷ []) ∷ [])) ≡ false
unlabelled_cycle = refl

abbrev fits : Card → List Structure → Bool
fits card ss = is_of no_rules (expr.Many kind.Sequence expr.Atom card) (sequence ss)

exactly_2_of_1 : fits exactly_2 (z ∷ []) ≡ false
exactly_2_of_1 = refl

exactly_2_of_2 : fits exactly_2 (z ∷ z ∷ []) ≡ true
exactly_2_of_2 = refl

exactly_2_of_3 : fits exactly_2 (z ∷ z ∷ z ∷ []) ≡ false
exactly_2_of_3 = refl

at_most_2_of_0 : fits at_most_2 [] ≡ true
at_most_2_of_0 = refl

at_most_2_of_2 : fits at_most_2 (z ∷ z ∷ []) ≡ true
at_most_2_of_2 = refl

at_most_2_of_3 : fits at_most_2 (z ∷ z ∷ z ∷ []) ≡ false
at_most_2_of_3 = refl

at_least_2_of_1 : fits at_least_2 (z ∷ []) ≡ false
at_least_2_of_1 = refl

at_least_2_of_2 : fits at_least_2 (z ∷ z ∷ []) ≡ true
at_least_2_of_2 = refl

at_least_2_of_3 : fits at_least_2 (z ∷ z ∷ z ∷ []) ≡ true
at_least_2_of_3 = refl

-- ---- supplies

supply_of_3 : supply Labelled 3 ≡ 1 ∷ 2 ∷ 3 ∷ []
supply_of_3 = refl

zeros_of_3 : supply Unlabelled 3 ≡ 0 ∷ 0 ∷ 0 ∷ []
zeros_of_3 = refl

distinct_labels : is_supply Labelled (2 ∷ 5 ∷ []) ≡ true
distinct_labels = refl

equal_labels : is_supply Labelled (2 ∷ 2 ∷ []) ≡ false
equal_labels = refl

zero_label : is_supply Labelled (0 ∷ 2 ∷ []) ≡ false
zero_label = refl

-- ---- a listing: Union(Z, Z, Epsilon) has two structures of size 1

abbrev two_ways : Expression
two_ways = expr.Union (expressions_of (expr.Atom ∷ expr.Atom ∷ expr.Epsilon ∷ []))

listing_of_union : listing_within (record { height = 1; number = 3; width = 0; label = 0 }) no_rules two_ways (0 ∷ []) ≡ Alt 1 z ∷ Alt 2 z ∷ []
listing_of_union = refl
