-- `quotient::kept::put_first` meets its contract: three stores put the name before the others.
use Rattle.quotient.proofs.Chains.{put-first-is}
use Rattle.quotient.proofs.kept.put_first.Goals as goal

pub returns : goal.returns
returns c =
    put-first-is c.requires.firsts_len c.requires.nexts_len c.requires.sizes_len
    c.requires.q_lt_byte_values c.requires.x_lt_byte_values
