-- `run_stored::mend` meets its contract. Assumes nothing.
use Prim.Native.Nat.{ℕ}
use mathlib.Core.Path.{ap, ◌∙◌}
use lib.ListN.{replicate}
use Rattle.dng.specs.Value.{nought}
use Rattle.run_bytes.specs.Samples.{cleared}
use Rattle.run_stored.proofs.mend.Goals as goal

pub returns : goal.returns
unfolding cleared
returns c =
    record {
      mended = c.attempt-r.ensures;
      wide_clear = c.clear.ensures ∙ ap (λ (n : ℕ). replicate n nought) c.attempt-r.auto.wide;
    }
