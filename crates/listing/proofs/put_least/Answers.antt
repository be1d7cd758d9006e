use Rattle.std.proofs.Common.{◌+◌, length, sym, ap, ◌∙◌}
use Rattle.buffer.specs.Put.{put}
use Rattle.listing.specs.Text.{least_text}
use Rattle.listing.proofs.put_least.Goals as goal

pub returns-in-None : goal.returns-in-None
returns-in-None c =
    let e = ap least_text c.in-None.is in
    record {
      text = c.put_bytes.ensures.text ∙ ap (put c.args.buffer.now c.args.at) (sym e);
      end = c.put_bytes.ensures.end ∙ ap (λ t. c.args.at + length t) (sym e);
    }
