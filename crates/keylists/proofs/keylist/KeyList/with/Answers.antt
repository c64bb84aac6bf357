-- `keylists::keylist::KeyList::with` meets its contract: one number more.
-- Assumes nothing.
use mathlib.Core.Bool.{Bool, ◌&&◌}
use mathlib.Core.Path.{refl, ap}
use native.Mathlib.Omega.{arith}
use Rattle.keylists.proofs.KeyLists.{keys_more}
use Rattle.keylists.proofs.keylist.KeyList.with.Goals as goal

pub returns : goal.returns
returns c = λ ts p.
    let k = c.args.self in
    keys_more ts c.args.v k _ p (omega (arith, p.count)) refl (ap (λ (b : Bool). k.keys && b) c.is_key.ensures) refl c.store-key.ensures
