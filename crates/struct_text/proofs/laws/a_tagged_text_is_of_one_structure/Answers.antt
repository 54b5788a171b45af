use Rattle.struct_text.proofs.OneText.{one_text}
use Rattle.struct_text.proofs.laws.a_tagged_text_is_of_one_structure.Goals as goal

pub returns : goal.returns
returns c = one_text
