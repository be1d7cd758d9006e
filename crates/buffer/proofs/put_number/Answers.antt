-- A number of one digit is that digit; any other is written as its text.
use Rattle.std.proofs.Common.{◌<◌, length, arith}
use Rattle.buffer.proofs.Digits.{length_digit, put_digit}
use Rattle.buffer.proofs.put_number.Goals as goal

pub bounds-buffer-at : goal.bounds-buffer-at
bounds-buffer-at c = omega (arith, length_digit c.args.n c.if-n-lt10.true)

pub returns-then-n-lt10-clause-text : goal.returns-then-n-lt10-clause-text
returns-then-n-lt10-clause-text c =
    let within : c.args.at < length c.args.buffer.now = omega (arith, length_digit c.args.n c.if-n-lt10.true) in
    put_digit c.args.buffer.now c.args.at c.args.n c.if-n-lt10.true within

pub returns-then-n-lt10-clause-end : goal.returns-then-n-lt10-clause-end
returns-then-n-lt10-clause-end c = omega (arith, length_digit c.args.n c.if-n-lt10.true)
