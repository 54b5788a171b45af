-- What a statement does: its effect on what is written and on what a session keeps.
use Rattle.std.specs.Prelude.{◌≡◌, ℕ, Bool, List, [], ◌++◌, codes, decimal, Option, Some, None, if◌then◌else◌}
use Rattle.spec_syntax.specs.declared.statement.Universe.{Universe}
use Rattle.spec_syntax.specs.declared.statement.RulesRef.{RulesRef}
use Rattle.spec_syntax.specs.declared.statement.RulesRef.TheVariants as rules_ref
use Rattle.spec_syntax.specs.declared.statement.ClassRef.{ClassRef}
use Rattle.spec_syntax.specs.declared.statement.ClassRef.TheVariants as class_ref
use Rattle.spec_syntax.specs.declared.statement.Job.{Job}
use Rattle.spec_syntax.specs.declared.statement.Job.TheVariants as job
use Rattle.spec_syntax.specs.declared.statement.Form.{Form}
use Rattle.spec_syntax.specs.declared.statement.Form.TheVariants as form
use Rattle.spec_syntax.specs.declared.statement.Statement.{Statement}
use Rattle.spec_syntax.specs.Expression.{Name}
use Rattle.spec_syntax.specs.Rules.{Rules, rule_name, symbol as symbol_of}
use Rattle.spec_syntax.specs.Grammar.{Grammar}
use Rattle.struct_model.specs.Structure.{Structure, parts_of}
use Rattle.struct_model.specs.Membership.{supply}
use Rattle.struct_model.specs.Bounded.{listing, number}
use Rattle.well_founded.specs.declared.refused.Refused.{Refused}
use Rattle.well_founded.specs.WellFounded.{Checks}
use Rattle.size_counts.specs.declared.place.Place.{Place}
use Rattle.size_counts.specs.Numbers.{NumbersSay}
use Rattle.comb_io.specs.Writes.{Write, to_out, to_err}
use Rattle.struct_text.specs.declared.form.TextForm.{TextForm}
use Rattle.struct_text.specs.Text.{parts_text}
use Rattle.session.specs.declared.refusal.Refusal.{Refusal}
use Rattle.session.specs.declared.refusal.Refusal.TheVariants as refusal
use Rattle.session.specs.Refusals.{refusal_number, refusal_line}

-- what a session keeps from one statement to the next. No name is bound and no bit is drawn yet, so it is nothing
abbrev pub State : Type 0
State = Unit {0}

-- what a session keeps before its first statement
abbrev pub first_state : State
first_state = tt

-- the writes of a statement, the number of its refusal where it is refused, and what the session keeps after it
pub record Effect : Type 0 where
  pub writes : List Write
  pub refused : Option ℕ
  pub next : State

-- how a statement stands in its script: it ends with a colon or not, begins in this line, and meets this state
pub record Setting : Type 0 where
  pub is_quiet : Bool
  pub line : ℕ
  pub state : State

-- it writes nothing and changes nothing
abbrev pub doing_nothing : Setting → Effect
doing_nothing setting = record { writes = []; refused = None; next = setting.state }

-- it writes a text to out, unless it ends with a colon
abbrev pub answering : Setting → List ℕ → Effect
answering setting text = record { writes = if setting.is_quiet then [] else to_out text; refused = None; next = setting.state }

-- it is refused: a line tells why, and nothing changes
abbrev pub refusing : Setting → Refusal → Effect
refusing setting why = record { writes = to_err (refusal_line setting.line why); refused = Some (refusal_number why); next = setting.state }

-- ---- what is asked of a class at a size

-- the text that answers, by the grammar, the class symbol and the size
abbrev pub AnswerText : Type 0
AnswerText = Grammar → List ℕ → ℕ → List ℕ

-- the texts of structures in this form, in brackets
abbrev pub structures_text : TextForm → Rules → List Structure → List ℕ
structures_text texts rules ss = codes "[" ++ parts_text texts rules (parts_of ss) ++ codes "]\n"

-- `allstructs`: those of the class
abbrev pub listing_text : TextForm → AnswerText
listing_text texts g symbol size = structures_text texts g.rules (listing g (Name symbol) (supply g.universe size))

-- `count`: how many there are
abbrev pub number_text : AnswerText
number_text g symbol size = decimal (number g (Name symbol) size) ++ codes "\n"

-- ---- in what order a class is refused

-- what is done with the text where the numbers of the class say this
abbrev pub NumberedDoes : Option Place → Rules → List ℕ → Setting → Effect → Type 0
NumberedDoes None rules text setting whole = whole ≡ answering setting text
NumberedDoes (Some place) rules text setting whole = whole ≡ refusing setting (refusal.TooLarge (rule_name rules place.rule) place)

-- the numbers of the class are looked at next
pub record NumbersDo (answer : AnswerText) (g : Grammar) (symbol : List ℕ) (size : ℕ) (setting : Setting) (whole : Effect) : Type 0 where
  pub sym : ℕ
  pub has_rule : symbol_of g.rules symbol ≡ Some sym
  pub said : Option Place
  pub numbers : NumbersSay g sym size said
  pub does : NumberedDoes said g.rules (answer g symbol size) setting whole

-- where the check says this of the class
abbrev pub CheckedDoes : Option Refused → AnswerText → Grammar → List ℕ → ℕ → Setting → Effect → Type 0
CheckedDoes None answer g symbol size setting whole = NumbersDo answer g symbol size setting whole
CheckedDoes (Some refused) answer g symbol size setting whole = whole ≡ refusing setting (refusal.Grammar refused)

-- the check of the class comes first
pub record CheckDoes (answer : AnswerText) (g : Grammar) (symbol : List ℕ) (size : ℕ) (setting : Setting) (whole : Effect) : Type 0 where
  pub said : Option Refused
  pub checks : Checks g (Some symbol) said
  pub does : CheckedDoes said answer g symbol size setting whole

abbrev pub RulesDo : AnswerText → List ℕ → RulesRef → Universe → ℕ → Setting → Effect → Type 0
RulesDo answer symbol (rules_ref.Written rules) universe size setting whole = CheckDoes answer (record { rules = rules; universe = universe }) symbol size setting whole
RulesDo answer symbol (rules_ref.Bound name) universe size setting whole = ⊥

abbrev pub ClassDoes : AnswerText → ClassRef → ℕ → Setting → Effect → Type 0
ClassDoes answer (class_ref.Written symbol rules universe) size setting whole = RulesDo answer symbol rules universe size setting whole
ClassDoes answer (class_ref.Bound name) size setting whole = ⊥

abbrev pub JobDoes : AnswerText → Job → Setting → Effect → Type 0
JobDoes answer (job.Grammar class size) setting whole = ClassDoes answer class size setting whole
JobDoes answer (job.Ready family over size) setting whole = ⊥

-- ---- statements

-- a statement of this form does this, where texts are in this form. What isn't in force is never read, so no effect is
-- stated of it
abbrev pub FormDoes : Form → TextForm → Setting → Effect → Type 0
FormDoes form.Empty texts setting whole = whole ≡ doing_nothing setting
FormDoes (form.Rules name rules) texts setting whole = ⊥
FormDoes (form.Class name class) texts setting whole = ⊥
FormDoes (form.Iterate name work cursor) texts setting whole = ⊥
FormDoes (form.Count work) texts setting whole = JobDoes number_text work setting whole
FormDoes (form.List work) texts setting whole = JobDoes (listing_text texts) work setting whole
FormDoes (form.Draw work) texts setting whole = ⊥
FormDoes (form.Next name) texts setting whole = ⊥
FormDoes (form.Finished name) texts setting whole = ⊥
FormDoes (form.Cursor name) texts setting whole = ⊥
FormDoes (form.Rest name) texts setting whole = ⊥
FormDoes (form.Equations rules universe variable) texts setting whole = ⊥

-- a statement that begins in this line does this to a session that keeps this, with its texts in this form
abbrev pub StatementDoes : Statement → ℕ → TextForm → State → Effect → Type 0
StatementDoes statement line texts state whole = FormDoes statement.form texts (record { is_quiet = statement.quiet; line = line; state = state }) whole
