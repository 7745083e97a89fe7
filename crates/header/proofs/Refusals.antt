-- No refusal has the number 0 (`refused`), so an outcome of number 0 refuses nothing; and no two have one number (`same-number`), since each can be
-- told by its number (`by-number`).
-- By the cases of a refusal.
-- Assumes nothing.
use Rattle.std.specs.Prelude.{ℕ, ◌≡◌, cond, eqb}
use mathlib.Core.Path.{refl, sym, ap, ◌∙◌}
use Rattle.header.specs.declared.Refusal.{Refusal}
use Rattle.header.specs.declared.Refusal.TheVariants.{Waiting, Stopped, LengthTooLong, NoHelloYet, SecondHello, StreamsAlone, UnknownKind, WrongSender, NotShared, WrongSize, BadField, NoDevice, OutOfOrder, AckOwed, WrongType, Settling, StreamClosed, IdInUse, TableFull, NoSuchRequest, ReplyTooLong, OutputTooShort, HoldTooShort, Unfit}
use Rattle.header.specs.Refusal.{number_of}

pub refused : (r : Refusal) → number_of r ≡ 0 → ⊥
refused Waiting e = cc
refused Stopped e = cc
refused LengthTooLong e = cc
refused NoHelloYet e = cc
refused SecondHello e = cc
refused StreamsAlone e = cc
refused UnknownKind e = cc
refused WrongSender e = cc
refused NotShared e = cc
refused WrongSize e = cc
refused BadField e = cc
refused NoDevice e = cc
refused OutOfOrder e = cc
refused AckOwed e = cc
refused WrongType e = cc
refused Settling e = cc
refused StreamClosed e = cc
refused IdInUse e = cc
refused TableFull e = cc
refused NoSuchRequest e = cc
refused ReplyTooLong e = cc
refused OutputTooShort e = cc
refused HoldTooShort e = cc
refused Unfit e = cc

-- the refusal of a number
abbrev by-number : ℕ → Refusal
by-number n =
    cond (eqb n 2) Waiting (cond (eqb n 3) Stopped (cond (eqb n 10) LengthTooLong (cond (eqb n 11) NoHelloYet (cond (eqb n 12) SecondHello (cond (eqb n 13) StreamsAlone (cond (eqb n 20) UnknownKind (cond (eqb n 21) WrongSender (cond (eqb n 22) NotShared (cond (eqb n 23) WrongSize (cond (eqb n 24) BadField (cond (eqb n 25) NoDevice (cond (eqb n 26) OutOfOrder (cond (eqb n 27) AckOwed (cond (eqb n 28) WrongType (cond (eqb n 29) Settling (cond (eqb n 30) StreamClosed (cond (eqb n 31) IdInUse (cond (eqb n 32) TableFull (cond (eqb n 33) NoSuchRequest (cond (eqb n 34) ReplyTooLong (cond (eqb n 40) OutputTooShort (cond (eqb n 41) HoldTooShort (Unfit)))))))))))))))))))))))

number-back : (r : Refusal) → by-number (number_of r) ≡ r
number-back Waiting = refl
number-back Stopped = refl
number-back LengthTooLong = refl
number-back NoHelloYet = refl
number-back SecondHello = refl
number-back StreamsAlone = refl
number-back UnknownKind = refl
number-back WrongSender = refl
number-back NotShared = refl
number-back WrongSize = refl
number-back BadField = refl
number-back NoDevice = refl
number-back OutOfOrder = refl
number-back AckOwed = refl
number-back WrongType = refl
number-back Settling = refl
number-back StreamClosed = refl
number-back IdInUse = refl
number-back TableFull = refl
number-back NoSuchRequest = refl
number-back ReplyTooLong = refl
number-back OutputTooShort = refl
number-back HoldTooShort = refl
number-back Unfit = refl

pub same-number : (r q : Refusal) → number_of r ≡ number_of q → r ≡ q
same-number r q e = sym (number-back r) ∙ ap by-number e ∙ number-back q
