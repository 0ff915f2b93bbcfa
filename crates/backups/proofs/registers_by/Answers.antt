use mathlib.Core.List.{List}
use Prim.Native.Nat.{ℕ}
use Rattle.backups.proofs.Opening.{without_registers, with_registers}
use Rattle.backups.proofs.registers_by.Goals as goal

pub returns-in-3 : goal.returns-in-3
returns-in-3 c = λ (bytes : List ℕ). without_registers _ bytes c.in-3.is

pub returns-in_default : goal.returns-in_default
returns-in_default c = λ (bytes : List ℕ). with_registers _ bytes c.in_default.in_default-own.rest.1
