-- The structures of a Prod and of a Sequence are the lists of their components, part by part of the supply.
use Rattle.std.proofs.Common.{◌≡◌, ℕ, Bool, true, List, [], ◌∷◌, ◌++◌, map, flat_map, refl, sym, ap, ◌∙◌, subst, true≢false, Less, Equal, nat_cmp, IsTrue}
use Rattle.std.specs.Cmp.Lexicographic.{slice_cmp}
use Rattle.std.specs.Ordering.{ordering_then}
use Rattle.std.proofs.lemmas.Bool.{and_parts, and_from}
use Rattle.std.proofs.lemmas.Cmp.{nat_cmp_total, tied_itself}
use Rattle.spec_syntax.specs.Expression as expr
use Rattle.spec_syntax.specs.Expression.{Expression, Expressions, no_expressions, more_expressions}
use Rattle.spec_syntax.specs.Grammar.{Grammar}
use Rattle.struct_model.specs.declared.tree.Form5.{Form5}
use Rattle.struct_model.specs.declared.tree.Form5.TheVariants as form
use Rattle.lists.specs.Ascending.{ascending}
use Rattle.struct_model.specs.Structure.{Structure, Tup, Structures, no_parts, more_parts, part_list, parts_of, labels, labels_of_parts, key}
use Rattle.struct_model.specs.Order.{form_rank, key_order, order_within, order_of_parts}
use Rattle.struct_model.specs.Membership.{is_of, are_of_each}
use Rattle.lists.specs.Enumeration.{Enumerated}
use Rattle.struct_model.specs.Listing.{Before, IsOne, Lists}
use Rattle.splits.specs.Splits.{Split, splits}
use Rattle.listing_laws.specs.Lister.{product, each_going_on, by_splits, list_no_components}
use Rattle.splits.specs.Laws.{PartBefore}
use Rattle.lists.proofs.Enumerated as enumerated
use Rattle.lists.proofs.Ascending.{Rises, rises_ascending, ascending_both}
use Rattle.splits.proofs.SplitLaws.{MakesUp, splits_are}
use Rattle.listing_laws.proofs.OrderFacts.{same_key, before_within, before_by_key, before_by_first, before_by_others, PartsBefore}

-- the lists pass the test and have these labels
abbrev pub AreWith : (Structures → Bool) → List ℕ → List Structure → Type 0
AreWith are u ss = IsTrue (are (parts_of ss)) × (ascending (labels_of_parts (parts_of ss)) ≡ u)

pub parts_back : (ps : Structures) → parts_of (part_list ps) ≡ ps
parts_back no_parts = refl
parts_back (more_parts s ps) = ap (more_parts s) (parts_back ps)

pub list_back : (ss : List Structure) → part_list (parts_of ss) ≡ ss
list_back [] = refl
list_back (s ∷ ss) = ap (λ others. s ∷ others) (list_back ss)

parts_in : Structure → Structures
parts_in (Tup f ps) = ps
parts_in s = no_parts

-- what is put together has one list of components
pub same_components : (f : Form5) (ss ts : List Structure) → Tup f (parts_of ss) ≡ Tup f (parts_of ts) → ss ≡ ts
unfolding parts_in
same_components f ss ts h = sym (list_back ss) ∙ ap (λ s. part_list (parts_in s)) h ∙ list_back ts

-- ---- a first component before the others

-- the structure passes the test and has these labels
abbrev pub OneWith : (Structure → Bool) → List ℕ → Structure → Type 0
OneWith passes u s = IsTrue (passes s) × (key s ≡ u)

-- what passes as a whole is a first structure that passes before others that pass behind it
pub record IsBuilt (first_passes : Structure → Bool) (others_pass : Structure → Structures → Bool) (all_pass : Structures → Bool) : Type 0 where
  pub joined : (s : Structure) (ps : Structures) → first_passes s ≡ true → others_pass s ps ≡ true → all_pass (more_parts s ps) ≡ true
  pub cut : (s : Structure) (ps : Structures) → all_pass (more_parts s ps) ≡ true → (first_passes s ≡ true) × (others_pass s ps ≡ true)

module _ (first_passes : Structure → Bool) (others_pass : Structure → Structures → Bool) where
  -- a first component on the part, and the others on the rest
  abbrev pub IsAt : Split → List Structure → Type 0
  IsAt split ss = (first : Structure) × (others : List Structure) × OneWith first_passes split.part first × AreWith (others_pass first) split.rest others × (ss ≡ first ∷ others)

  abbrev IsAfter : List ℕ → Structure → List Structure → Type 0
  IsAfter u first ss = (others : List Structure) × AreWith (others_pass first) u others × (ss ≡ first ∷ others)

  pub each_going_on_are : (split : Split) (firsts : List Structure) (others : Structure → List (List Structure))
      → Enumerated Before (OneWith first_passes split.part) firsts
      → ((first : Structure) → OneWith first_passes split.part first → Enumerated PartsBefore (AreWith (others_pass first) split.rest) (others first))
      → Enumerated PartsBefore (IsAt split) (each_going_on firsts others)
  each_going_on_are split firsts others f o =
      enumerated.made Before (OneWith first_passes split.part) PartsBefore (IsAfter split.rest) (IsAt split) (λ first. map (λ rest. first ∷ rest) (others first)) firsts f
      (λ first p. enumerated.mapped PartsBefore (AreWith (others_pass first) split.rest) PartsBefore (IsAfter split.rest first) (λ rest. first ∷ rest) (others first) (o first p)
      (λ ss ts p q before. before_by_others first ss ts before) (λ ss p. (ss, p, refl)) (λ ss p. p))
      (λ s t p q before ss ts after_s after_t.
      subst (λ v. PartsBefore v ts) (sym after_s.2) (subst (λ v. PartsBefore (s ∷ after_s.0) v) (sym after_t.2) (before_by_first s t after_s.0 after_t.0 before)))
      (λ first ss p after. (first, after.0, p, after.1, after.2))
      (λ ss at. (at.0, at.2, (at.1, at.3, at.4)))

  pub lesser_part : (a b : Split) → PartBefore a b → (ss ts : List Structure) → IsAt a ss → IsAt b ts → PartsBefore ss ts
  lesser_part a b before ss ts at_a at_b =
      let keys : key_order at_a.0 at_b.0 ≡ Less = (λ i. slice_cmp nat_cmp (at_a.2.1 i) (at_b.2.1 i)) ∙ before in
      let first : PartsBefore (at_a.0 ∷ at_a.1) (at_b.0 ∷ at_b.1) = before_by_first at_a.0 at_b.0 at_a.1 at_b.1 (before_by_key at_a.0 at_b.0 keys) in
      subst (λ v. PartsBefore v ts) (sym at_a.4) (subst (λ v. PartsBefore (at_a.0 ∷ at_a.1) v) (sym at_b.4) first)

module _ (first_passes : Structure → Bool) (others_pass : Structure → Structures → Bool) (all_pass : Structures → Bool) (built : IsBuilt first_passes others_pass all_pass) where
  to_all : (u : List ℕ) (split : Split) (ss : List Structure) → MakesUp u split → IsAt first_passes others_pass split ss → AreWith all_pass u ss
  to_all u split ss s at =
      let both : AreWith all_pass u (at.0 ∷ at.1) = (
        built.joined at.0 (parts_of at.1) at.2.0 at.3.0,
        sym (ascending_both (labels at.0) (labels_of_parts (parts_of at.1))) ∙ (λ i. ascending (at.2.1 i ++ at.3.1 i)) ∙ s.whole,
      ) in
      subst (AreWith all_pass u) (sym at.4) both

  from_all : (u : List ℕ) (s : Structure) (ss : List Structure) → AreWith all_pass u (s ∷ ss) → (split : Split) × MakesUp u split × IsAt first_passes others_pass split (s ∷ ss)
  from_all u s ss p =
      let both = built.cut s (parts_of ss) p.0 in (
        record { part = key s; rest = ascending (labels_of_parts (parts_of ss)) },
        record {
          part = rises_ascending (labels s);
          rest = rises_ascending (labels_of_parts (parts_of ss));
          whole = ascending_both (labels s) (labels_of_parts (parts_of ss)) ∙ p.1;
        },
        (s, ss, (both.0, refl), (both.1, refl), refl),
      )

  -- these are the splits on which there is a first component, in the order of the parts
  pub record AreChosen (u : List ℕ) (Chosen : Split → Type 0) (chosen : List Split) : Type 0 where
    pub listed : Enumerated PartBefore Chosen chosen
    pub makes : (split : Split) → Chosen split → MakesUp u split
    pub each : (split : Split) (s : Structure) → MakesUp u split → OneWith first_passes split.part s → Chosen split

  -- the lists of components, split by split, where the first ones, and the others behind each of them, are listed on each split
  pub by_chosen_are : (u : List ℕ) (Chosen : Split → Type 0) (chosen : List Split) (first : List ℕ → List Structure) (others : Structure → List ℕ → List (List Structure))
      → AreChosen u Chosen chosen
      → (AreWith all_pass u [] → ⊥)
      → ((split : Split) → Chosen split → Enumerated Before (OneWith first_passes split.part) (first split.part))
      → ((split : Split) → Chosen split → (s : Structure) → OneWith first_passes split.part s → Enumerated PartsBefore (AreWith (others_pass s) split.rest) (others s split.rest))
      → Enumerated PartsBefore (AreWith all_pass u) (flat_map (λ split. each_going_on (first split.part) (λ s. others s split.rest)) chosen)
  by_chosen_are u Chosen chosen first others are some f o =
      enumerated.made PartBefore Chosen PartsBefore (IsAt first_passes others_pass) (AreWith all_pass u) (λ split. each_going_on (first split.part) (λ s. others s split.rest)) chosen
      are.listed
      (λ split c. each_going_on_are first_passes others_pass split (first split.part) (λ s. others s split.rest) (f split c) (o split c))
      (λ a b s t before. lesser_part first_passes others_pass a b before)
      (λ split ss c at. to_all u split ss (are.makes split c) at)
      found
    where
      found : (ss : List Structure) → AreWith all_pass u ss → (split : Split) × Chosen split × IsAt first_passes others_pass split ss
      found [] p = absurd (some p)
      found (s ∷ ss) p =
          let at = from_all u s ss p in
          (at.0, are.each at.0 at.2.0 at.1 at.2.2, at.2)

module _ (g : Grammar) where
  -- ---- components put together

  -- the structures of the expression are the lists that pass, put together in this form
  pub record IsTogether (form : Form5) (whole : Expression) (pass : Structures → Bool) : Type 0 where
    pub passes : (ps : Structures) → is_of g whole (Tup form ps) ≡ pass ps
    pub is_list : (s : Structure) → is_of g whole s ≡ true → (ps : Structures) × (s ≡ Tup form ps)

  module _ (form : Form5) (whole : Expression) (pass : Structures → Bool) (together : IsTogether form whole pass) where
    -- the structure with these components
    abbrev made_of : List Structure → Structure
    made_of ss = Tup form (parts_of ss)

    same_forms : (ss ts : List Structure) → nat_cmp (form_rank form) (form_rank form) ≡ Equal
    same_forms ss ts = tied_itself nat_cmp_total (form_rank form)

    made_before : (u : List ℕ) (ss ts : List Structure) → AreWith pass u ss → AreWith pass u ts → PartsBefore ss ts → Before (made_of ss) (made_of ts)
    made_before u ss ts p q before =
        before_within (made_of ss) (made_of ts) (same_key (made_of ss) (made_of ts) u p.1 q.1)
        (ap (λ o. ordering_then o (order_of_parts (parts_of ss) (parts_of ts))) (same_forms ss ts) ∙ before)

    parts_before : (u : List ℕ) (ss ts : List Structure) → AreWith pass u ss → AreWith pass u ts → Before (made_of ss) (made_of ts) → PartsBefore ss ts
    parts_before u ss ts p q before =
        sym (ap (λ o. ordering_then o (order_of_parts (parts_of ss) (parts_of ts))) (same_forms ss ts))
        ∙ sym (ap (λ o. ordering_then o (order_within (made_of ss) (made_of ts))) (same_key (made_of ss) (made_of ts) u p.1 q.1)) ∙ before

    from_made : (u : List ℕ) (s : Structure) → IsOne g whole u s → (ss : List Structure) × AreWith pass u ss × (s ≡ made_of ss)
    from_made u s p =
        let found = together.is_list s p.0 in
        let back : s ≡ made_of (part_list found.0) = found.1 ∙ ap (Tup form) (sym (parts_back found.0)) in (
          part_list found.0,
          (
            sym (together.passes (parts_of (part_list found.0))) ∙ ap (is_of g whole) (sym back) ∙ p.0,
            ap key (sym back) ∙ p.1,
          ),
          back,
        )

    -- put together, the lists of components are the structures of the expression
    pub together_are : (u : List ℕ) (sss : List (List Structure)) → Enumerated PartsBefore (AreWith pass u) sss → Lists g whole u (map made_of sss)
    together_are u sss h =
        enumerated.mapped PartsBefore (AreWith pass u) Before (IsOne g whole u) made_of sss h (made_before u) (λ ss p. (together.passes (parts_of ss) ∙ p.0, p.1)) (from_made u)

    -- and the other way round
    pub components_from : (u : List ℕ) (sss : List (List Structure)) → Lists g whole u (map made_of sss) → Enumerated PartsBefore (AreWith pass u) sss
    components_from u sss h =
        enumerated.same_property PartsBefore (λ ss. IsOne g whole u (made_of ss)) (AreWith pass u) sss
        (enumerated.unmapped PartsBefore Before (IsOne g whole u) made_of sss h
        (λ ss ts p q before. parts_before u ss ts (sym (together.passes (parts_of ss)) ∙ p.0, p.1) (sym (together.passes (parts_of ts)) ∙ q.0, q.1) before)
        (same_components form))
        (λ ss p. (sym (together.passes (parts_of ss)) ∙ p.0, p.1)) (λ ss p. (together.passes (parts_of ss) ∙ p.0, p.1))

  -- ---- the components of a Prod

  -- a list of components, one of each expression, with these labels
  abbrev pub AreOnes : Expressions → List ℕ → List Structure → Type 0
  AreOnes es u ss = AreWith (are_of_each g es) u ss

  abbrev pub ListsComponents : Expressions → List ℕ → List (List Structure) → Type 0
  ListsComponents es u sss = Enumerated PartsBefore (AreOnes es u) sss

  pub no_components_are : (u : List ℕ) → ListsComponents no_expressions u (list_no_components u)
  no_components_are [] = enumerated.one PartsBefore (AreOnes no_expressions []) [] (refl, refl) only
    where
      only : (ss : List Structure) → AreOnes no_expressions [] ss → ss ≡ []
      only [] p = refl
      only (s ∷ ss) p = absurd (true≢false (sym p.0))
  no_components_are (label ∷ labels) = enumerated.none PartsBefore (AreOnes no_expressions (label ∷ labels)) never
    where
      never : (ss : List Structure) → AreOnes no_expressions (label ∷ labels) ss → ⊥
      never [] p = cc
      never (s ∷ ss) p = true≢false (sym p.0)

  one_of_each : (e : Expression) (es : Expressions) → IsBuilt (is_of g e) (λ s. are_of_each g es) (are_of_each g (more_expressions e es))
  one_of_each e es = record { joined = λ s ps first others. and_from _ _ first others; cut = λ s ps all. and_parts _ _ all }

  -- the lists of components of a Prod, where the first ones and the others are listed on each split
  pub by_splits_are : (e : Expression) (es : Expressions) (u : List ℕ) (first : List ℕ → List Structure) (others : List ℕ → List (List Structure)) → Rises u
      → ((split : Split) → MakesUp u split → Lists g e split.part (first split.part))
      → ((split : Split) → MakesUp u split → ListsComponents es split.rest (others split.rest))
      → ListsComponents (more_expressions e es) u (by_splits first others u)
  by_splits_are e es u first others rises f o =
      by_chosen_are (is_of g e) (λ s. are_of_each g es) (are_of_each g (more_expressions e es)) (one_of_each e es) u (MakesUp u) (splits u) first (λ s. others)
      (record { listed = splits_are u rises; makes = λ split s. s; each = λ split one s is. s })
      (λ p. true≢false (sym p.0)) f (λ split s first one. o split s)

  prod_together : (es : Expressions) → IsTogether form.Prod (expr.Prod es) (are_of_each g es)
  prod_together es = record { passes = λ ps. refl; is_list = prod_list }
    where
      prod_list : (s : Structure) → is_of g (expr.Prod es) s ≡ true → (ps : Structures) × (s ≡ Tup form.Prod ps)
      prod_list (Tup form.Prod ps) of = (ps, refl)
      prod_list s of = absurd (true≢false (sym of))

  -- the products of the lists of components are the structures of the Prod
  pub products_are : (es : Expressions) (u : List ℕ) (sss : List (List Structure)) → ListsComponents es u sss → Lists g (expr.Prod es) u (map product sss)
  products_are es u sss h = together_are form.Prod (expr.Prod es) (are_of_each g es) (prod_together es) u sss h

  -- and the other way round
  pub components_are : (es : Expressions) (u : List ℕ) (sss : List (List Structure)) → Lists g (expr.Prod es) u (map product sss) → ListsComponents es u sss
  components_are es u sss h = components_from form.Prod (expr.Prod es) (are_of_each g es) (prod_together es) u sss h
