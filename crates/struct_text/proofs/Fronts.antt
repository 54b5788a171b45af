-- Texts that are put piece by piece: what stands where a piece isn't whole.
use Rattle.std.proofs.Common.{◌≡◌, ℕ, ◌+◌, ◌-◌, ◌<◌, ◌≤◌, List, ◌++◌, codes, length, get_or, take, drop, Result, Ok, Err, OnErr, sym, ap, subst, ◌∙◌, min, arith, append_assoc, append-nil, length-append}
use Rattle.std.proofs.Math.Seq.{take-append-add}
use Rattle.std.proofs.lemmas.List.{take-append-le, take_min}
use Rattle.struct_model.specs.Structure.{Structure, parts_of}
use Rattle.struct_model.proofs.Parts.{parts_step}
use Rattle.spec_syntax.specs.Rules.{Rules}
use Rattle.struct_text.specs.declared.form.TextForm.{TextForm}
use Rattle.struct_text.specs.Fronts.{PutsFront}
use Rattle.struct_text.specs.Text.{text, others_text}

-- what is known holds of an error too
pub at_err : {A E : Type 0} (r : Result A E) (P : Type 0) → P → OnErr r P
at_err (Ok x) P p = tt
at_err (Err e) P p = p

-- none of it was put
pub nothing_put : (old new text : List ℕ) → new ≡ old → PutsFront old new text
nothing_put old new text same = record { count = 0; put = same ∙ sym (append-nil old) }

-- a front of the rest, behind what stands
pub front_of_rest : (old mid new text rest : List ℕ) → old ++ text ≡ mid ++ rest → length old ≤ length mid → PutsFront mid new rest → PutsFront old new text
front_of_rest old mid new text rest whole grown front =
    let count : ℕ = length mid + front.count - length old in
    let far : length mid + front.count ≡ length old + count = omega arith in
    record {
      count = count;
      put = front.put ∙ sym (take-append-add mid rest front.count) ∙ ap (take (length mid + front.count)) (sym whole) ∙ ap (λ n. take n (old ++ text)) far ∙ take-append-add old text count;
    }

-- a front of the second piece, behind the first
pub front_behind : (old mid new first second : List ℕ) → mid ≡ old ++ first → PutsFront mid new second → PutsFront old new (first ++ second)
front_behind old mid new first second whole front =
    front_of_rest old mid new (first ++ second) second (sym (append_assoc old first second) ∙ ap (λ t. t ++ second) (sym whole)) (omega (arith, ap length whole, length-append old first)) front

-- a front of the first piece
pub front_of_first : (old new first second : List ℕ) → PutsFront old new first → PutsFront old new (first ++ second)
front_of_first old new first second front =
    let count : ℕ = min front.count (length first) in
    record {
      count = count;
      put = front.put ∙ ap (λ t. old ++ t) (sym (take-append-le count first second (omega arith) ∙ take_min front.count first));
    }

-- a front of the second piece by a last call, behind the first
pub last_behind : {A E : Type 0} (r : Result A E) (old mid new first second : List ℕ) → mid ≡ old ++ first → OnErr r (PutsFront mid new second) → OnErr r (PutsFront old new (first ++ second))
last_behind (Ok x) old mid new first second whole front = tt
last_behind (Err e) old mid new first second whole front = front_behind old mid new first second whole front

-- a front of the next component behind those that stand
pub front_of_others : (shown : TextForm) (rules : Rules) (ss : List Structure) (i : ℕ) (s : Structure) (old mid new : List ℕ) → i < length ss → s ≡ get_or ss i s
    → old ++ others_text shown rules (parts_of ss) ≡ mid ++ others_text shown rules (parts_of (drop i ss)) → length old ≤ length mid
    → PutsFront mid new (codes ", " ++ text shown rules s) → PutsFront old new (others_text shown rules (parts_of ss))
front_of_others shown rules ss i s old mid new within here whole grown front =
    let rest : List ℕ = others_text shown rules (parts_of (drop (i + 1) ss)) in
    front_of_rest old mid new (others_text shown rules (parts_of ss)) (others_text shown rules (parts_of (drop i ss))) whole grown
    (subst (PutsFront mid new) (sym (ap (λ parts. others_text shown rules (parts_of parts)) (parts_step ss i s within here))) (front_of_first mid new (codes ", " ++ text shown rules s) rest front))
