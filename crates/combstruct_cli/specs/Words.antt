-- The words after the program's name.
use Rattle.std.specs.Prelude.{ℕ, List, [], ◌∷◌, bytes_eq, codes, Option, Some, None, if◌then◌else◌}
use Rattle.struct_text.specs.declared.form.TextForm.{TextForm}
use Rattle.struct_text.specs.declared.form.TextForm.TheVariants.{Maple, Tagged}

-- the form of texts that a word asks for
abbrev pub form_of_word : List ℕ → Option TextForm
form_of_word word =
    if bytes_eq word (codes "--form=maple") then Some Maple
    else if bytes_eq word (codes "--form=tagged") then Some Tagged
    else None

-- the form of texts that the words ask for, which is Maple's without words. Two words are out of form
abbrev pub words_form : List (List ℕ) → Option TextForm
words_form [] = Some Maple
words_form (word ∷ []) = form_of_word word
words_form (word ∷ other ∷ words) = None
