pub mod TypeLemmas
pub mod TextLemmas
pub mod SourceLemmas
pub mod NameLemmas
pub mod FrontLemmas
pub mod FieldLemmas
pub mod AnswerLemmas
pub mod MethodLemmas
