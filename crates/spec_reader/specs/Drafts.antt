-- What is built of a statement while its tokens are read.
use Rattle.std.specs.Prelude.{ℕ, suc, ◌+◌, Bool, true, false, ◌&&◌, nat_le, is_some, List, [], ◌∷◌, ◌++◌, Option, Some, None, if◌then◌else◌, sum_by}
use Rattle.std.specs.Option.{option_map_or}
use Rattle.std.specs.List.{list_all}
use Rattle.spec_syntax.specs.Expression.{Expression, Epsilon, Atom, Name, Union, Prod, Many, expressions_of, nodes, nodes_of_all, has_some, is_well_formed, are_well_formed}
use Rattle.spec_syntax.specs.declared.statement.Universe.TheVariants as universe
use Rattle.spec_reader.specs.declared.token.Sign.TheVariants as sign
use Rattle.spec_reader.specs.declared.table.Item.{Item}
use Rattle.spec_reader.specs.declared.table.Item.TheVariants as item
use Rattle.spec_reader.specs.declared.table.Head.{Head}
use Rattle.spec_reader.specs.declared.table.Head.TheVariants as head
use Rattle.spec_reader.specs.declared.table.Former.TheVariants as former
use Rattle.spec_reader.specs.declared.table.Comparison.TheVariants as compare
use Rattle.spec_reader.specs.declared.draft.Bound.{Bound}
use Rattle.spec_reader.specs.declared.draft.BoundPart.{BoundPart}
use Rattle.spec_reader.specs.declared.draft.BoundPart.TheVariants as part
use Rattle.spec_reader.specs.declared.draft.Compound.{Compound}
use Rattle.spec_reader.specs.declared.draft.Compound.TheVariants.{Several, Container}
use Rattle.spec_reader.specs.declared.draft.Draft.{Draft}
use Rattle.spec_reader.specs.Tokens as token
use Rattle.spec_reader.specs.Tokens.{Token, value, text_of}
use Rattle.spec_reader.specs.Meaning.{card_by, turned}
use Rattle.spec_reader.specs.Table.{is_mark, command_of, head_of, comparison_of, universe_of}

-- nothing is built yet, a universe that isn't written is unlabelled, and no colon was read
abbrev pub empty : Draft
empty = record { command = None; symbol = []; universe = universe.Unlabelled; rights = []; pending = []; size = 0; quiet = false }

-- the bound that every number of components keeps
abbrev pub unbounded : Bound
unbounded = record { comparison = compare.AtLeast; number = 0 }

-- the bound with this part in place of its own
abbrev pub with_part : BoundPart → Bound → Bound
with_part (part.Comparison comparison) bound = record bound { comparison = comparison }
with_part (part.Number number) bound = record bound { number = number }

-- the expression that a compound is with what was read of it; a container without an element is none
abbrev pub formed : Compound → Option Expression
formed (Several former.Union arguments) = Some (Union (expressions_of arguments))
formed (Several former.Prod arguments) = Some (Prod (expressions_of arguments))
formed (Container kind None bound) = None
formed (Container kind (Some element) bound) = Some (Many kind element (card_by bound.comparison bound.number))

abbrev pub put_on : Expression → List Compound → Draft → Draft
put_on e [] draft = record draft { rights = e ∷ draft.rights; pending = [] }
put_on e (Several former arguments ∷ pending) draft = record draft { pending = Several former (arguments ++ e ∷ []) ∷ pending }
put_on e (Container kind element bound ∷ pending) draft = record draft { pending = Container kind (Some e) bound ∷ pending }

-- a whole expression is an argument of the innermost one that is not, and where all are it is a right side
abbrev pub put : Expression → Draft → Draft
put e draft = put_on e draft.pending draft

abbrev pub close_on : List Compound → Draft → Draft
close_on [] draft = draft
close_on (compound ∷ pending) draft = option_map_or (λ e. put e (record draft { pending = pending })) (formed compound) (record draft { pending = pending })

-- the innermost expression that is not whole becomes whole
abbrev pub close : Draft → Draft
close draft = close_on draft.pending draft

-- the innermost expression that is not whole, where it is a container, has another bound
abbrev pub rebound : (Bound → Bound) → List Compound → List Compound
rebound change [] = []
rebound change (Several former arguments ∷ pending) = Several former arguments ∷ pending
rebound change (Container kind element bound ∷ pending) = Container kind element (change bound) ∷ pending

-- the innermost expression that is not whole, where it is a container, has this part in its bound
abbrev pub rebind : BoundPart → Draft → Draft
rebind new draft = record draft { pending = rebound (with_part new) draft.pending }

abbrev pub begin_at : Token → Option Head → Draft → Draft
begin_at token None draft = draft
begin_at token (Some head.Epsilon) draft = put Epsilon draft
begin_at token (Some head.Atom) draft = put Atom draft
begin_at token (Some head.Name) draft = put (Name (text_of token)) draft
begin_at token (Some (head.Former former)) draft = record draft { pending = Several former [] ∷ draft.pending }
begin_at token (Some (head.Container kind)) draft = record draft { pending = Container kind None unbounded ∷ draft.pending }

-- the number that a token writes
abbrev pub number_in : Token → Option ℕ
number_in (token.Number digits) = Some (value digits)
number_in (token.Mark sign) = None
number_in (token.Reserved keyword) = None
number_in (token.Name text) = None
number_in (token.Text text) = None
number_in token.Stray = None

-- what is built with a token that an item takes
abbrev pub act : Item → Token → Draft → Draft
act item.Statement token draft =
    option_map_or (λ command. record draft { command = Some command }) (command_of token) (record draft { quiet = is_mark sign.Colon token })
act item.End token draft = record draft { quiet = is_mark sign.Colon token }
act item.Symbol token draft = record draft { symbol = text_of token }
act item.Universe token draft = option_map_or (λ named. record draft { universe = named }) (universe_of token) draft
act item.RightOfZ token draft = put Atom draft
act (item.Expr depth) token draft = begin_at token (head_of token) draft
act (item.MoreExprs depth) token draft = if is_mark sign.CloseParen token then close draft else draft
act item.ContainerEnd token draft = if is_mark sign.CloseParen token then close draft else draft
act item.BoundEnd token draft = if is_mark sign.CloseParen token then close draft else draft
act item.Bound token draft = option_map_or (λ number. rebind (part.Number number) draft) (number_in token) draft
act item.Comparison token draft = option_map_or (λ comparison. rebind (part.Comparison comparison) draft) (comparison_of token) draft
act item.TurnedComparison token draft = option_map_or (λ comparison. rebind (part.Comparison (turned comparison)) draft) (comparison_of token) draft
act item.CardNumber token draft = option_map_or (λ number. rebind (part.Number number) draft) (number_in token) draft
act item.Size token draft = option_map_or (λ number. record draft { size = number }) (number_in token) draft
act item.Class token draft = draft
act item.ClassEnd token draft = draft
act item.Rules token draft = draft
act item.Rule token draft = draft
act item.MoreRules token draft = draft
act (item.Mark sign) token draft = draft
act (item.Reserved keyword) token draft = draft

-- has the innermost expression that is not whole an argument, if there is one
abbrev pub is_filled : List Compound → Bool
is_filled [] = true
is_filled (Several former arguments ∷ pending) = has_some (expressions_of arguments)
is_filled (Container kind element bound ∷ pending) = is_some element

-- can the innermost expression that is not whole be closed where the next thing about expressions is to go on or to close
abbrev pub is_ready : List Item → List Compound → Bool
is_ready [] pending = true
is_ready (item.RightOfZ ∷ items) pending = true
is_ready (item.Expr depth ∷ items) pending = true
is_ready (item.MoreExprs depth ∷ items) pending = is_filled pending
is_ready (item.ContainerEnd ∷ items) pending = is_filled pending
is_ready (item.BoundEnd ∷ items) pending = is_filled pending
is_ready (_ ∷ items) pending = is_ready items pending

-- are the arguments of a compound so far well formed
abbrev pub is_well_begun : Compound → Bool
is_well_begun (Several former arguments) = are_well_formed (expressions_of arguments)
is_well_begun (Container kind element bound) = option_map_or is_well_formed element true

-- the number of expressions in a compound so far, itself counted
abbrev pub begun : Compound → ℕ
begun (Several former arguments) = suc (nodes_of_all (expressions_of arguments))
begun (Container kind element bound) = suc (option_map_or nodes element 0)

-- the number of expressions in a draft
abbrev pub built : Draft → ℕ
built draft = sum_by nodes draft.rights + sum_by begun draft.pending

-- are the expressions of a draft well formed, and at most so many
abbrev pub is_draft : ℕ → Draft → Bool
is_draft expressions draft =
    list_all is_well_formed draft.rights
    && list_all is_well_begun draft.pending
    && nat_le (built draft) expressions
