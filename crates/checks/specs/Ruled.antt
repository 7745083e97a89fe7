-- A packet ruled on case by case, as the code goes: each case asks only what can refuse it.
-- Assumes nothing: these are definitions. `ruled-is` in `Agree` shows that they are the rules.
use Rattle.std.specs.Prelude.{ℕ, Bool, false, cond, not, ◌&&◌, ◌||◌, get_or, eqb, ltb, Option, Some, None, is_some, Result, Ok, Err}
use Rattle.header.specs.declared.Refusal.{Refusal}
use Rattle.header.specs.declared.Refusal.TheVariants.{NoDevice, OutOfOrder, AckOwed, WrongType, StreamClosed, IdInUse, TableFull, NoSuchRequest, ReplyTooLong}
use Rattle.header.specs.declared.Refusal.TheVariants as refusals
use Rattle.endpoint.specs.declared.Endpoint.{Endpoint}
use Rattle.device.specs.declared.Head.{Head}
use Rattle.device.specs.declared.Rows.{Rows}
use Rattle.device.specs.declared.Scope.{Scope}
use Rattle.device.specs.declared.Scope.TheVariants.{NoRow, EveryRow, OfInterface}
use Rattle.device.specs.Device.{state_at}
use Rattle.requests.specs.declared.Request.{Request}
use Rattle.requests.specs.declared.Slot.{Slot}
use Rattle.requests.specs.declared.Requests.{Requests}
use Rattle.requests.specs.Requests.{places, free_slot, Free, Id, Settling, lowest}
use Rattle.events.specs.declared.Typed.{Typed}
use Rattle.events.specs.declared.Reply.{Reply}
use Rattle.events.specs.declared.Case.{Case}
use Rattle.events.specs.declared.Case.TheVariants as cases
use Rattle.events.specs.Status.{is_success, is_stall}
use Rattle.checks.specs.declared.Change.{Change}
use Rattle.checks.specs.declared.Change.TheVariants.{NoChange, Seen, Hello, Connect, Interfaces, Endpoints, Disconnect, Reset, Acknowledge, Take, TakeAndOpen, Release}
use Rattle.checks.specs.declared.StreamMove.TheVariants.{Stalls}
use Rattle.checks.specs.Checks.{is_begun, is_done, mistyped_by}
use Rattle.checks.specs.Change.{move_by}

-- its change, or why it is refused
abbrev pub Ruling : Type 0
Ruling = Result Change Refusal

-- where there is a device
abbrev pub with_device : Head → Ruling → Ruling
with_device h r = cond h.present r (Err NoDevice)

-- where no ack is owed
abbrev pub without_ack : Head → Ruling → Ruling
without_ack h r = cond h.owed (Err AckOwed) r

-- ---- an introduction

abbrev pub connected_by : Head → Ruling
connected_by h = without_ack h (cond (h.present || not (is_done h.introduction)) (Err OutOfOrder) (Ok Connect))

abbrev pub introduced_by : Head → Ruling
introduced_by h = without_ack h (cond (not h.present && not (is_begun h.introduction)) (Err OutOfOrder) (Ok Interfaces))

-- ---- a request

abbrev pub taking : Request → Typed → Bool → Option ℕ → Ruling
taking q typed starts None = Err TableFull
taking q typed starts (Some i) = Ok (cond starts (TakeAndOpen i q typed) (Take i q))

abbrev pub asked_by : Rows → Requests → Request → Typed → Bool → Bool → Ruling
asked_by d t q typed starts transfer =
    cond (mistyped_by d typed) (Err WrongType)
    (cond (transfer && is_some (lowest t Settling)) (Err refusals.Settling)
    (cond (is_some (lowest t (Id q.id))) (Err IdInUse) (taking q typed starts (lowest t Free))))

-- ---- a reply

-- no request is answered: only what may come unasked passes, which is a stall
abbrev pub unmatched : Typed → Bool → Ruling
unmatched typed unasked = cond unasked (Ok (Release None typed Stalls NoRow)) (Err NoSuchRequest)

-- a reply of a kind that may, with id 0 and a stall, comes unasked
abbrev pub alone : Reply → Bool → Bool
alone r unasked = unasked && eqb r.told.id 0 && is_stall r.status

-- what else a reply to a request of this kind ends
abbrev pub scope_to : Reply → ℕ → Scope
scope_to r kind = cond (is_success r.status) (cond (eqb kind 6) EveryRow (cond (eqb kind 9) (OfInterface r.told.target) NoRow)) NoRow

-- it answers a request of this kind, with this slot
abbrev pub is_answered : Reply → ℕ → Slot → Bool
is_answered r kind slot = (eqb kind r.answers.first || eqb kind r.answers.second) && (not r.answers.targeted || eqb slot.target r.told.target)

-- the request at place i, of this kind and with this slot, has the reply's id
abbrev pub settled_by : ℕ → Reply → Typed → Bool → ℕ → Slot → Ruling
settled_by i r typed unasked kind slot =
    cond (is_answered r kind slot)
    (cond (ltb slot.length r.told.length) (Err ReplyTooLong) (Ok (Release (Some i) typed (move_by r.status (eqb kind r.answers.first)) (scope_to r kind))))
    (unmatched typed (alone r unasked))

-- the request with the reply's id is at this place
abbrev pub replied_in : Requests → Reply → Typed → Bool → Option ℕ → Ruling
replied_in t r typed unasked None = unmatched typed (alone r unasked)
replied_in t r typed unasked (Some i) = settled_by i r typed unasked (get_or t.kinds i 0) (get_or t.slots i free_slot)

-- ---- data on a stream

-- c: what it does where it passes
abbrev pub streamed_by : Rows → Requests → Endpoint → ℕ → Bool → Change → Ruling
streamed_by d t e ty transfer c =
    cond (eqb (state_at d e).ty ty)
    (cond (transfer && is_some (lowest t Settling)) (Err refusals.Settling) (cond (state_at d e).streaming (Ok c) (Err StreamClosed)))
    (Err WrongType)

-- ---- each case

unfoldable pub ruled : Head → Rows → Requests → Case → Ruling
ruled h d t (cases.Hello word) = Ok (Hello word)
ruled h d t cases.Connect = connected_by h
ruled h d t cases.Interfaces = introduced_by h
ruled h d t cases.Endpoints = without_ack h (Ok Endpoints)
ruled h d t cases.Disconnect = with_device h (Ok Disconnect)
ruled h d t cases.Reset = with_device h (Ok Reset)
ruled h d t cases.Ack = cond h.owed (Ok Acknowledge) (Err OutOfOrder)
ruled h d t cases.Cancel = with_device h (Ok NoChange)
ruled h d t cases.Filter = Ok NoChange
ruled h d t (cases.Asks q typed starts transfer) = with_device h (asked_by d t q typed starts transfer)
ruled h d t (cases.Answers r typed unasked) = with_device h (replied_in t r typed unasked (lowest t (Id r.told.id)))
ruled h d t (cases.StreamsOut e ty transfer) = with_device h (streamed_by d t e ty transfer NoChange)
ruled h d t (cases.StreamsIn e ty id) = with_device h (streamed_by d t e ty false (Seen e id))
