use Rattle.backups.proofs.Opening.{marked_1, marked_2, marked_3, marked_else}
use Rattle.backups.proofs.finished_by.Goals as goal

pub returns-in-1 : goal.returns-in-1
returns-in-1 c = marked_1 _ c.in-1.is

pub returns-in-2 : goal.returns-in-2
returns-in-2 c = marked_2 _ c.in-2.is

pub returns-in-3 : goal.returns-in-3
returns-in-3 c = marked_3 _ c.in-3.is

pub returns-in_default : goal.returns-in_default
returns-in_default c = marked_else _ c.in_default.in_default-own.rest.0.0.1 c.in_default.in_default-own.rest.0.1 c.in_default.in_default-own.rest.1
