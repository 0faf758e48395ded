pub mod OperandLemmas
pub mod AdmissionLemmas
pub mod ArithmeticLemmas
pub mod ReadingLemmas
pub mod MethodLemmas
