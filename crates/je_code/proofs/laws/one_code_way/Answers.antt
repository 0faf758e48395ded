use Rattle.je_code.proofs.laws.one_code_way.Goals as goal

pub one_way-requires : goal.one_way-requires
one_way-requires c = record {
  same = λ bytes at value other h k. absurd value;
  no_fault = λ bytes at value fault h f. absurd value;
  one_fault = λ bytes at fault other f k. absurd f;
}
