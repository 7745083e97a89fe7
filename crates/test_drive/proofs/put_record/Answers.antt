-- `test_drive::put_record` meets its contract: seven numbers, each behind the one before it, in the part that is lent.
-- Assumes nothing.
use Rattle.test_drive.proofs.Records.{answer-laid, record-back}
use Rattle.test_drive.proofs.put_record.Goals as goal

pub returns : goal.returns
returns c =
    let out = c.args.out.now in
    let a = c.args.a.now in
    record-back out c.args.at a c.requires (answer-laid _ a c.location_number.ensures c.span_of-data.ensures c.put.ensures c.put-2.ensures c.put-3.ensures c.put-4.ensures c.put-5.ensures c.put-6.ensures c.put-7.ensures)
