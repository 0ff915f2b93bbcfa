-- What a recovery's answer says of the registers (document 02, No. 2). The proofs are in proofs/Said.antt.
use Rattle.std.specs.Prelude.{◌≡◌, ◌≢◌, List, ℕ, replicate}
use Rattle.rules.specs.declared.Geometry.{Geometry}
use Rattle.rules.specs.declared.Registers.TheVariants.{Absent}
use Rattle.rules.specs.declared.Recovery.{Recovery}
use Rattle.rules.specs.Board.{Board}
use Rattle.rules.specs.Numbers.{number_of}
use Rattle.rules.specs.Power.{Outcome}
use Rattle.rules.specs.Starts.{registers_of, Recovered}
use Rattle.rules.specs.Calls.{recover, call}
use Rattle.rules.specs.PlainMachine.{Picture}
use Rattle.rules.specs.Promises.{Recovers, WithoutRegisters}

-- a refused recovery says that there are none
unfoldable pub RefusedSaysNone : Type 0
RefusedSaysNone =
    (p : ℕ) (board : Board) (g : Geometry) (r : Recovery) (memory cache table : List ℕ)
    → Recovered (call p board (recover g)) r memory cache table
    → number_of r.answer.number ≢ 0
    → r.registers ≡ Absent

-- demand 3 in the answer's words: a recovery that gives a picture says its registers, or that there are none
unfoldable pub SaysThePicture : Type 0
SaysThePicture =
    (g : Geometry) (picture : Picture) (outcome : Outcome) (r : Recovery) (memory cache table : List ℕ)
    → Recovers g picture outcome
    → Recovered outcome r memory cache table
    → registers_of r.registers r.answer.controller.registers ≡ picture.registers

-- and one that has none, as every one until a checkpoint is finished after the format, says that there are none
unfoldable pub SaysNone : Type 0
SaysNone =
    (outcome : Outcome) (r : Recovery) (memory cache table : List ℕ)
    → WithoutRegisters outcome
    → Recovered outcome r memory cache table
    → (number_of r.answer.number ≡ 0) × (r.registers ≡ Absent) × (r.answer.controller.registers ≡ replicate 64 0)
