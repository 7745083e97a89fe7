-- The numbers of the refusals, and of an outcome: 0 where nothing is refused.
-- Assumes nothing: these are definitions.
use Rattle.std.specs.Prelude.{ℕ, Result, Ok, Err}
use Rattle.header.specs.declared.Refusal.{Refusal}
use Rattle.header.specs.declared.Refusal.TheVariants.{Waiting, Stopped, LengthTooLong, NoHelloYet, SecondHello, StreamsAlone, UnknownKind, WrongSender, NotShared, WrongSize, BadField, NoDevice, OutOfOrder, AckOwed, WrongType, Settling, StreamClosed, IdInUse, TableFull, NoSuchRequest, ReplyTooLong, OutputTooShort, HoldTooShort, Unfit}

abbrev pub number_of : Refusal → ℕ
number_of Waiting = 2
number_of Stopped = 3
number_of LengthTooLong = 10
number_of NoHelloYet = 11
number_of SecondHello = 12
number_of StreamsAlone = 13
number_of UnknownKind = 20
number_of WrongSender = 21
number_of NotShared = 22
number_of WrongSize = 23
number_of BadField = 24
number_of NoDevice = 25
number_of OutOfOrder = 26
number_of AckOwed = 27
number_of WrongType = 28
number_of Settling = 29
number_of StreamClosed = 30
number_of IdInUse = 31
number_of TableFull = 32
number_of NoSuchRequest = 33
number_of ReplyTooLong = 34
number_of OutputTooShort = 40
number_of HoldTooShort = 41
number_of Unfit = 43

abbrev pub number_in : {T : Type 0} → Result T Refusal → ℕ
number_in (Ok x) = 0
number_in (Err r) = number_of r
