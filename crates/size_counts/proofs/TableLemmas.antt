-- What stands in the tables and in their columns.
use Rattle.std.proofs.Common.{◌≡◌, ◌⊎◌, ℕ, zero, suc, ◌+◌, ◌-◌, ◌<◌, ◌≤◌, ◌^◌, Bool, List, [], ◌∷◌, ◌++◌, length, map, Option, Some, None, slice_get, unwrap_or, refl, sym, ap, ◌∙◌, subst, inl, inr, arith}
use Rattle.std.specs.Option.{option_map}
use Rattle.std.specs.List.{range_with_len}
use Rattle.std.proofs.lemmas.Option.{slice_get-map, slice_get_within, slice_get_past}
use Rattle.std.proofs.lemmas.List.FromFn.{length-map-range_with_len, map-range_with_len_more}
use Rattle.std.proofs.lemmas.List.{length_push, length-map}
use Rattle.lists.proofs.Places.{pushed_at}
use Rattle.spec_syntax.specs.Expression as expr
use Rattle.spec_syntax.specs.Expression.{Expression, Expressions, expression_list}
use Rattle.spec_syntax.specs.Nodes.{node_at}
use Rattle.spec_syntax.specs.Grammar.{Grammar}
use Rattle.graphs.specs.Graph.{IsMarked}
use Rattle.well_founded.specs.Checked.{Checked, grammar}
use Rattle.splits.specs.Capped.{Tells}
use Rattle.size_counts.specs.Tables.{Layer, cell, column}
use Rattle.size_counts.specs.Numbers.{Numbered, numbers_at, suffix_number, suffixes_at}
use Rattle.size_counts.specs.Told.{values, IsLayer, AreTold, TellAll}

-- ---- lists

pub range_at : (start n i : ℕ) → i < n → slice_get (range_with_len start n) i ≡ Some (start + i)
range_at start zero i within = absurd (omega arith)
range_at start (suc n) zero within = ap Some (none start)
  where
    none : (k : ℕ) → k ≡ k + 0
    none k = omega arith
range_at start (suc n) (suc i) within = range_at (start + 1) n i (omega arith) ∙ ap Some (further start i)
  where
    further : (k j : ℕ) → k + 1 + j ≡ k + suc j
    further k j = omega arith

pub made_at : {X : Type 0} (f : ℕ → X) (start n i : ℕ) → i < n → slice_get (map f (range_with_len start n)) i ≡ Some (f (start + i))
made_at f start n i within = slice_get-map f (range_with_len start n) i ∙ ap (option_map f) (range_at start n i within)

pub none_made : {X : Type 0} (f : ℕ → X) (start n i : ℕ) → n ≤ i → slice_get (map f (range_with_len start n)) i ≡ None
none_made f start n i past = slice_get_past (map f (range_with_len start n)) i (omega (arith, length-map-range_with_len f start n))

-- what is told of each of a list, and then of one more
pub tell_none : TellAll [] []
tell_none = record { for_each = refl; each = λ i n one at there. let wrong : ◌≡◌ {A = Option ℕ} None (Some n) = there in absurd (cc) }

pub tell_more : (told : List (Option ℕ)) (numbers : List ℕ) (one : Option ℕ) (n : ℕ) → TellAll told numbers → Tells one n → TellAll (told ++ one ∷ []) (numbers ++ n ∷ [])
tell_more told numbers one n all this = record {
  for_each = length_push told one ∙ ap (λ (k : ℕ). k + 1) all.for_each ∙ sym (length_push numbers n);
  each = λ i m other at there. by i m other (pushed_at told one i other at) (pushed_at numbers n i m there);
}
  where
    by : (i m : ℕ) (other : Option ℕ) → (slice_get told i ≡ Some other) ⊎ ((i ≡ length told) × (other ≡ one)) → (slice_get numbers i ≡ Some m) ⊎ ((i ≡ length numbers) × (m ≡ n)) → Tells other m
    by i m other (inl at) (inl there) = all.each i m other at there
    by i m other (inl at) (inr there) = absurd (omega (arith, slice_get_within told i other at, there.0, all.for_each))
    by i m other (inr at) (inl there) = absurd (omega (arith, slice_get_within numbers i m there, at.0, all.for_each))
    by i m other (inr at) (inr there) = subst (λ (k : ℕ). Tells other k) (sym there.1) (subst (λ (o : Option ℕ). Tells o n) (sym at.1) this)

-- of a list that is made of numbers in turn
pub tell_made : (f : ℕ → ℕ) (told : List (Option ℕ)) (one : Option ℕ) (start n j : ℕ) → start + n ≡ j → TellAll told (map f (range_with_len start n)) → Tells one (f j)
    → TellAll (told ++ one ∷ []) (map f (range_with_len start (n + 1)))
tell_made f told one start n j same all this =
    subst (λ (numbers : List ℕ). TellAll (told ++ one ∷ []) numbers) (sym (map-range_with_len_more f start n j same)) (tell_more told (map f (range_with_len start n)) one (f j) all this)

-- ---- columns

-- what stands in a column, and behind it
pub in_column : (layers : List Layer) (node i : ℕ) (last : Option ℕ) (d : ℕ) (one : Option ℕ) → slice_get (column layers node i ++ last ∷ []) d ≡ Some one
    → ((layer : Layer) × (slice_get layers d ≡ Some layer) × (one ≡ Some (cell layer node i))) ⊎ ((d ≡ length layers) × (one ≡ last))
in_column layers node i last d one at = by (pushed_at (column layers node i) last d one at)
  where
    mapped : (found : Option Layer) → option_map (λ (layer : Layer). Some (cell layer node i)) found ≡ Some one → (layer : Layer) × (found ≡ Some layer) × (one ≡ Some (cell layer node i))
    mapped None wrong = absurd (cc)
    mapped (Some layer) same = (layer, refl, (cc))

    by : (slice_get (column layers node i) d ≡ Some one) ⊎ ((d ≡ length (column layers node i)) × (one ≡ last))
        → ((layer : Layer) × (slice_get layers d ≡ Some layer) × (one ≡ Some (cell layer node i))) ⊎ ((d ≡ length layers) × (one ≡ last))
    by (inl there) = inl (mapped (slice_get layers d) (sym (slice_get-map (λ (layer : Layer). Some (cell layer node i)) layers d) ∙ there))
    by (inr behind) = inr (behind.0 ∙ length-map layers (λ (layer : Layer). Some (cell layer node i)), behind.1)

pub length_column : (layers : List Layer) (node i : ℕ) (last : Option ℕ) → length (column layers node i ++ last ∷ []) ≡ length layers + 1
length_column layers node i last = length_push (column layers node i) last ∙ ap (λ (k : ℕ). k + 1) (length-map layers (λ (layer : Layer). Some (cell layer node i)))

module _ (checked : Checked) (marks : List Bool) (layers : List Layer) (told : AreTold checked marks layers) (node : ℕ) (e : Expression)
    (marked : IsMarked marks node) (at : node_at checked.rules node ≡ Some e) where
  -- what stands in a layer
  pub cell_told : (i m : ℕ) (layer : Layer) → slice_get layers m ≡ Some layer → Tells (Some (cell layer node i)) (unwrap_or (slice_get (values (numbers_at (grammar checked) e m)) i) 0)
  cell_told i m layer there = (same, small (slice_get (values (numbers_at (grammar checked) e m)) i) refl)
    where
      of_layer : IsLayer (grammar checked) marks m layer
      of_layer = told.layer_is m layer there

      same : cell layer node i ≡ unwrap_or (slice_get (values (numbers_at (grammar checked) e m)) i) 0
      same = ap (λ (found : Option (List ℕ)). unwrap_or (slice_get (unwrap_or found []) i) 0) (of_layer.each node e marked at)

      small : (found : Option ℕ) → slice_get (values (numbers_at (grammar checked) e m)) i ≡ found → unwrap_or found 0 < 2 ^ 128
      small None is = omega arith
      small (Some v) is = of_layer.small node e marked at i v is

  -- and in a column, below its last entry
  pub entry_told : (i : ℕ) (last : Option ℕ) (d : ℕ) (one : Option ℕ) → d < length layers → slice_get (column layers node i ++ last ∷ []) d ≡ Some one
      → Tells one (unwrap_or (slice_get (values (numbers_at (grammar checked) e d)) i) 0)
  entry_told i last d one below there = by (in_column layers node i last d one there)
    where
      by : ((layer : Layer) × (slice_get layers d ≡ Some layer) × (one ≡ Some (cell layer node i))) ⊎ ((d ≡ length layers) × (one ≡ last))
          → Tells one (unwrap_or (slice_get (values (numbers_at (grammar checked) e d)) i) 0)
      by (inl found) = subst (λ (o : Option ℕ). Tells o (unwrap_or (slice_get (values (numbers_at (grammar checked) e d)) i) 0)) (sym found.2) (cell_told i d found.0 found.1)
      by (inr behind) = absurd (omega (arith, behind.0))

-- the last entry
pub last_entry : (layers : List Layer) (node i : ℕ) (last : Option ℕ) (d : ℕ) (one : Option ℕ) → d ≡ length layers → slice_get (column layers node i ++ last ∷ []) d ≡ Some one → one ≡ last
last_entry layers node i last d one end there = by (in_column layers node i last d one there)
  where
    by : ((layer : Layer) × (slice_get layers d ≡ Some layer) × (one ≡ Some (cell layer node i))) ⊎ ((d ≡ length layers) × (one ≡ last)) → one ≡ last
    by (inl found) = absurd (omega (arith, slice_get_within layers d found.0 found.1))
    by (inr behind) = behind.1

-- ---- the numbers of an expression

pub suffix_value : (g : Grammar) (es : Expressions) (m i : ℕ) → 2 ≤ i → i ≤ length (expression_list es)
    → slice_get (values (numbers_at g (expr.Prod es) m)) (i - 1) ≡ Some (suffix_number g (expression_list es) i m)
suffix_value g es m zero low high = absurd (omega arith)
suffix_value g es m (suc zero) low high = absurd (omega arith)
suffix_value g es m (suc (suc j)) low high =
    ap (slice_get (values (numbers_at g (expr.Prod es) m))) (before j)
    ∙ slice_get-map (λ (numbered : Numbered). numbered.number) (suffixes_at g (expression_list es) m) j
    ∙ ap (option_map (λ (numbered : Numbered). numbered.number)) (made_at _ 2 (length (expression_list es) - 1) j (omega arith))
    ∙ ap (λ (k : ℕ). Some (suffix_number g (expression_list es) k m)) (two j)
  where
    before : (j : ℕ) → suc (suc j) - 1 ≡ suc j
    before j = omega arith

    two : (j : ℕ) → 2 + j ≡ suc (suc j)
    two j = omega arith
