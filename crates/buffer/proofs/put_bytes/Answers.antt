-- What was copied into the part is the bytes, and what lies behind the part begins at its end.
use Rattle.std.proofs.Common.{rules}
use Rattle.std.proofs.lemmas.List.{drop-drop}
use Rattle.buffer.proofs.put_bytes.Goals as goal

pub returns : goal.returns
returns c = search (rules, drop-drop)
