-- A call's answer, put together from what it says and the record that it leaves (document 02, No. 4).
use Rattle.rules.specs.declared.Controller.{Controller}
use Rattle.rules.specs.declared.Answer.{Answer}
use Rattle.rules.specs.declared.Recovery.{Recovery}
use Rattle.inner.specs.declared.Reply.{Reply}
use Rattle.inner.specs.declared.Regained.{Regained}

abbrev pub answered : Reply → Controller → Answer
answered r controller = record { number = r.number; words = r.words; controller = controller }

abbrev pub recovered : Regained → Controller → Recovery
recovered r controller = record {
  answer = record { number = r.number; words = r.words; controller = controller };
  registers = r.registers;
}
