-- What is promised of wires (document 02, No. 1 and No. 7). The proofs are in proofs/Telling.antt, Demands.antt, AsBegun.antt and Room.antt.
use Rattle.std.specs.Prelude.{◌≡◌, ◌≢◌, ◌⊎◌, true, false, List, [], ◌∷◌, ℕ, ◌≤◌, ◌<◌, Ok, None, Some}
use Rattle.words.specs.Words.{lay}
use Rattle.rules.specs.declared.Geometry.{Geometry}
use Rattle.rules.specs.Board.{Board, Volatile, sizes, phase_of}
use Rattle.rules.specs.Numbers.{number_of, is_off}
use Rattle.rules.specs.Power.{stored}
use Rattle.rules.specs.Calls.{Call, load, peek, store, begin, step, recover, sweep, plan, call}
use Rattle.rules.specs.PlainMachine.{Picture, Plain, has_mark, note}
use Rattle.rules.specs.Runs.{Event, does, Run, doing, runs, Lengths, NoFormat, FromFormat, run_from, NoneFinished}
use Rattle.rules.specs.SweepPromises.{RoomMade}
use Rattle.records.specs.declared.Wire.{Wire}
use Rattle.records.specs.Records.{written}
use Rattle.records.specs.Classes.{first_sheet, class_of}
use Rattle.records.specs.Reading.{says_of}
use Rattle.wires.specs.Reading.{Reading, Gives, ReadsWire, told}

-- ---- a read

-- the board's own number first; only a read that is answered 0 hands out anything
unfoldable pub ReadTells : Type 0
ReadTells =
    (board : Board) (w : ℕ) (r : Reading)
    → ReadsWire board w r
    → (number_of (call 0 board (load w 0 64)).number ≢ 0 → (told r).number ≡ number_of (call 0 board (load w 0 64)).number)
    × (number_of (call 0 board (load w 0 64)).number ≡ 0 → ((told r).number ≡ 0) ⊎ ((told r).number ≡ 30))
    × ((told r).number ≢ 0 → (told r).values ≡ None)

-- ---- from demand 2: reading while the board runs

-- while a promise stands and the board isn't Off, every wire of the board is read, and as its live block says
unfoldable pub LiveReads : Type 0
LiveReads =
    (board : Board) (events : List Event) (plain : Plain) (w : ℕ) (r : Reading)
    → let run = runs events (record { board = board; promise = None }) in
    run.promise ≡ Some plain
    → is_off (phase_of run.board) ≡ false
    → w < (sizes run.board).blocks
    → ReadsWire run.board w r
    → Gives (plain.live w) r

-- a call that leaves wire w alone, by its number: no store that names w, no recovery and no format; or one that is refused
pub data Spares (w : ℕ) : Call → ℕ → Type 0 where
  loads : {block offset len n : ℕ} → Spares w (load block offset len) n
  peeks : {block n : ℕ} → Spares w (peek block) n
  stores_another : {block offset n : ℕ} {bytes : List ℕ} → block ≢ w → Spares w (store block offset bytes) n
  begins : {registers : List ℕ} {n : ℕ} → Spares w (begin registers) n
  steps : {most n : ℕ} → Spares w (step most) n
  sweeps : {limit n : ℕ} → Spares w (sweep limit) n
  refuses : {c : Call} {n : ℕ} → n ≢ 0 → n ≢ 20 → Spares w c n

-- a run goes on by such calls
pub data Quiet (w : ℕ) : Run → List Event → Type 0 where
  no_more : {run : Run} → Quiet w run []
  and_then :
      {run : Run} {p : ℕ} {c : Call} {events : List Event}
      → Spares w c (number_of (call p run.board c).number)
      → Quiet w (doing p c run) events
      → Quiet w run (does p c ∷ events)

-- a read after an accepted write gives what was written, also later in the run while no other store names w
unfoldable pub WrittenReads : Type 0
WrittenReads =
    (board : Board) (events : List Event) (plain : Plain) (p w : ℕ) (wire : Wire) (later : List Event) (r : Reading)
    → let before = runs events (record { board = board; promise = None }) in
    let after = doing p (store w 0 (written wire)) before in
    before.promise ≡ Some plain
    → wire.current < 65536
    → number_of (call p before.board (store w 0 (written wire))).number ≡ 0
    → Quiet w after later
    → is_off (phase_of (runs later after).board) ≡ false
    → ReadsWire (runs later after).board w r
    → r ≡ Ok (says_of wire (class_of first_sheet wire))

-- ---- from demand 3: reading after a recovery

-- whatever the volatile memory holds, every wire of the recovered board is read, and as its block of the picture says
pub record WiresIn (g : Geometry) (picture : Picture) (memory : List ℕ) : Type 0 where
  pub each :
      (volatile : Volatile) → Lengths g volatile → (p w : ℕ) → w < g.blocks → (r : Reading)
      → ReadsWire (call p (record { memory = memory; volatile = volatile }) (recover g)).board w r
      → Gives (picture.blocks w) r

-- one finished format, any allowed events, and any prefix of the words of any further call but a format (a load has none: so also between
-- calls). A recovery then gives the wires of what is kept: the live blocks when the last finished checkpoint was begun.
unfoldable pub RecoveredReads : Type 0
RecoveredReads =
    (g : Geometry) (from : FromFormat g)
    → let run = run_from from in
    (plain : Plain)
    → run.promise ≡ Some plain
    → (c : Call)
    → NoFormat c
    → (q : ℕ)
    → let words = stored q (plan run.board c) in
    WiresIn g (note g plain c (number_of (call q run.board c).number) words).kept (lay words run.board.memory)

-- ---- the same, said of one checkpoint and of what reads tell

-- a call that goes on with the checkpoint on its way, by its number: no recovery and no other begin, unless refused or cut
pub data GoesOn : Call → ℕ → Type 0 where
  loads : {block offset len n : ℕ} → GoesOn (load block offset len) n
  peeks : {block n : ℕ} → GoesOn (peek block) n
  stores : {block offset n : ℕ} {bytes : List ℕ} → GoesOn (store block offset bytes) n
  steps : {most n : ℕ} → GoesOn (step most) n
  sweeps : {limit n : ℕ} → GoesOn (sweep limit) n
  fails : {c : Call} {n : ℕ} → NoFormat c → n ≢ 0 → GoesOn c n

-- a run goes on by such calls
pub data OnItsWay : Run → List Event → Type 0 where
  no_more : {run : Run} → OnItsWay run []
  and_then :
      {run : Run} {p : ℕ} {c : Call} {events : List Event}
      → GoesOn c (number_of (call p run.board c).number)
      → OnItsWay (doing p c run) events
      → OnItsWay run (does p c ∷ events)

-- a checkpoint is begun, goes on its way and is finished by a step that stores the mark; whatever follows finishes no other.
-- After a loss of supply and the recovery, each wire reads as it read when that checkpoint was begun.
unfoldable pub AsBegun : Type 0
AsBegun =
    (g : Geometry) (from : FromFormat g)
    → let first = run_from from in
    (q : ℕ) (registers : List ℕ)
    → number_of (call q first.board (begin registers)).number ≡ 0
    → (during : List Event)
    → OnItsWay (doing q (begin registers) first) during
    → let last = runs during (doing q (begin registers) first) in
    (s most : ℕ)
    → has_mark g (stored s (plan last.board (step most))) ≡ true
    → (later : List Event)
    → NoneFinished g (doing s (step most) last) later
    → let end = runs later (doing s (step most) last) in
    (volatile : Volatile)
    → Lengths g volatile
    → (t w : ℕ)
    → w < g.blocks
    → (r r' : Reading)
    → ReadsWire first.board w r
    → ReadsWire (call t (record { memory = end.board.memory; volatile = volatile }) (recover g)).board w r'
    → r' ≡ r

-- ---- room for a new wire (document 02, No. 7)

-- While quiet wires sit in clean entries a board may answer FULL. With one of them it takes the new wire after sweep, begin and finish,
-- from a supply of 8 words.
unfoldable pub RoomForWire : Type 0
RoomForWire =
    (after : Board)
    → RoomMade after
    → (q w : ℕ) (wire : Wire)
    → w < (sizes after).blocks
    → 8 ≤ q
    → number_of (call q after (store w 0 (written wire))).number ≡ 0
