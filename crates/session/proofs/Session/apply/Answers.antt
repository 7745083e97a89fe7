-- `session::Session::apply` meets its contract: the change is the one of the arm, and each part is what the method that changed it ensures.
-- Assumes nothing.
use mathlib.Core.Path.{refl, ◌∙◌}
use Rattle.session.specs.Step.{applied}
use Rattle.session.proofs.Session.apply.Goals as goal

pub returns-in-NoChange : goal.returns-in-NoChange
unfolding applied
returns-in-NoChange c = rw c.in-NoChange.is refl

pub returns-in-Hello : goal.returns-in-Hello
unfolding applied
returns-in-Hello c = rw c.in-Hello.is (λ j. record { head = c.set_hello.ensures j; rows = c.args.self.now.rows; requests = c.args.self.now.requests; watch = c.args.self.now.watch })

pub returns-in-Connect : goal.returns-in-Connect
unfolding applied
returns-in-Connect c = rw c.in-Connect.is refl

pub returns-in-Interfaces : goal.returns-in-Interfaces
unfolding applied
returns-in-Interfaces c = rw c.in-Interfaces.is (λ j. record { head = c.introduce.ensures j; rows = c.args.self.now.rows; requests = c.args.self.now.requests; watch = c.args.self.now.watch })

pub returns-in-Endpoints : goal.returns-in-Endpoints
unfolding applied
returns-in-Endpoints c = rw c.in-Endpoints.is (λ j. record { head = c.introduce-in-Endpoints.ensures j; rows = c.replace.ensures j; requests = c.args.self.now.requests; watch = c.args.self.now.watch })

pub returns-in-Disconnect : goal.returns-in-Disconnect
unfolding applied
returns-in-Disconnect c =
    let head = c.set_device.ensures ∙ rw c.has_shared_bit-owed.ensures refl in
    rw c.in-Disconnect.is (λ j. record { head = head j; rows = c.start_rows-self.ensures j; requests = c.clear.ensures j; watch = c.forget.ensures j })

pub returns-in-Reset : goal.returns-in-Reset
unfolding applied
returns-in-Reset c = rw c.in-Reset.is (λ j. record { head = c.args.self.now.head; rows = c.close.ensures j; requests = c.clear-in-Reset.ensures j; watch = c.args.self.now.watch })

pub returns-in-Acknowledge : goal.returns-in-Acknowledge
unfolding applied
returns-in-Acknowledge c = rw c.in-Acknowledge.is refl

pub returns-in-Take : goal.returns-in-Take
unfolding applied
returns-in-Take c = rw c.in-Take.is (λ j. record { head = c.args.self.now.head; rows = c.args.self.now.rows; requests = c.take.ensures j; watch = c.args.self.now.watch })

pub returns-in-TakeAndOpen : goal.returns-in-TakeAndOpen
unfolding applied
returns-in-TakeAndOpen c =
    rw c.in-TakeAndOpen.is (λ j. record { head = c.args.self.now.head; rows = c.set_stream.ensures j; requests = c.take-in-TakeAndOpen.ensures j; watch = c.begin.ensures j })

pub returns-then-is_stalling : goal.returns-then-is_stalling
unfolding applied
returns-then-is_stalling c =
    let rows = c.close-in-Release.ensures ∙ rw (c.set_stream-in-Release.ensures, c.is_opening.ensures) refl in
    rw (c.in-Release.is, ← c.is_stalling.ensures, c.if-is_stalling.true)
    (λ j. record { head = c.args.self.now.head; rows = rows j; requests = c.release.ensures j; watch = c.begin-then-is_stalling.ensures j })

pub returns-else-is_stalling : goal.returns-else-is_stalling
unfolding applied
returns-else-is_stalling c =
    let rows = c.close-in-Release.ensures ∙ rw (c.set_stream-in-Release.ensures, c.is_opening.ensures) refl in
    rw (c.in-Release.is, ← c.is_stalling.ensures, c.if-is_stalling.false)
    (λ j. record { head = c.args.self.now.head; rows = rows j; requests = c.release.ensures j; watch = c.args.self.now.watch })

pub returns-in-Seen : goal.returns-in-Seen
unfolding applied
returns-in-Seen c =
    let watch = c.see.ensures ∙ rw c.has_wide_ids-wide.ensures refl in
    rw c.in-Seen.is (λ j. record { head = c.args.self.now.head; rows = c.args.self.now.rows; requests = c.args.self.now.requests; watch = watch j })
