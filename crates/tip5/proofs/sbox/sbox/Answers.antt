use borrow.Author.Tests.{lt-ltb, le-ltb}
use Rattle.tip5.specs.Sbox.{sbox_of}
use Rattle.tip5.proofs.sbox.sbox.Goals as goal

pub returns-then-i-lt4 : goal.returns-then-i-lt4
unfolding sbox_of
returns-then-i-lt4 c = rw (lt-ltb _ _ c.if-i-lt4.true) c.split_and_lookup.ensures

pub returns-else-i-lt4 : goal.returns-else-i-lt4
unfolding sbox_of
returns-else-i-lt4 c = rw (le-ltb _ _ c.if-i-lt4.false) c.seventh.ensures
