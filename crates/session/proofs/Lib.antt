pub mod TextLemmas
pub mod ClassLemmas
pub mod EffectsExist
pub mod MakesLemmas
pub mod MemberTexts
