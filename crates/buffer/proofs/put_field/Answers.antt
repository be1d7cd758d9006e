-- The number is written on behind the label.
use Rattle.std.proofs.Common.{decimal, arith, length-append}
use Rattle.buffer.proofs.Puts.{written_first, written_more}
use Rattle.buffer.proofs.put_field.Goals as goal

pub put_bytes-behind-requires : goal.put_bytes-behind-requires
put_bytes-behind-requires c = omega (arith, length-append c.args.label.now (decimal c.args.n))

pub put_number-requires : goal.put_number-requires
put_number-requires c = omega (arith, length-append c.args.label.now (decimal c.args.n))

pub returns : goal.returns
returns c =
    let l = length-append c.args.label.now (decimal c.args.n) in
    let front = written_first _ _ _ _ _ c.put_bytes-behind.ensures.text c.put_bytes-behind.ensures.end in
    let w = written_more c.args.buffer.now c.args.at c.args.label.now c.put_bytes-behind.new.buffer c.put_bytes-behind.result (decimal c.args.n) _ _ front (omega (arith, l)) c.put_number.ensures.text c.put_number.ensures.end in
    record { text = w.text; end = w.end }
