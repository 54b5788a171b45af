-- The runs of equal labels in a key.
use Rattle.std.specs.Prelude.{ℕ, ◌+◌, nat_lt, nat_le, List, [], ◌∷◌, Option, Some, None, if◌then◌else◌}
use Rattle.std.specs.declared.cmp.Ordering.{Ordering}
use Rattle.std.specs.Ordering.{nat_cmp}
use Rattle.std.specs.List.{filter}
use Rattle.std.specs.Cmp.Lexicographic.{slice_cmp}
use Rattle.struct_model.specs.declared.keys.Run.{Run}
use Rattle.lists.specs.Ascending.{ascending}
use Rattle.struct_model.specs.Structure.{Structure, labels}

-- how many labels the run has, if there is one
abbrev pub run_count : Option Run → ℕ
run_count None = 0
run_count (Some run) = run.count

-- the run of the lesser label, or both together where they have one label
abbrev pub lesser_run : Run → Run → Run
lesser_run here there =
    if nat_lt here.label there.label then here else if nat_lt there.label here.label then there else record { label = here.label; count = here.count + there.count }

abbrev pub merged : Option Run → Option Run → Option Run
merged None there = there
merged (Some here) None = Some here
merged (Some here) (Some there) = Some (lesser_run here there)

-- the run of the label alone, if it is at least low
abbrev pub run_of : ℕ → ℕ → Option Run
run_of low label = if nat_lt label low then None else Some (record { label = label; count = 1 })

-- the run of the least label that is at least low
abbrev pub first_run : ℕ → List ℕ → Option Run
first_run low [] = None
first_run low (label ∷ more) = merged (run_of low label) (first_run low more)

-- the labels from low on in ascending order
abbrev pub key_from : ℕ → List ℕ → List ℕ
key_from low ns = ascending (filter (nat_le low) ns)

-- the order of two keys from the label low on
abbrev pub key_order_from : ℕ → Structure → Structure → Ordering
key_order_from low s t = slice_cmp nat_cmp (key_from low (labels s)) (key_from low (labels t))
