-- One more number was reported.
use Rattle.std.proofs.Common.{ℕ, ◌+◌, add-one, subst, sym}
use Rattle.v_frame_streams.specs.Telling.{TellsUpTo}

pub one_more_told : {A : Type 0} (shows : A → A → ℕ → Type 0) (n : ℕ) (old mid new : A) → TellsUpTo shows n old mid
    → shows mid new (n + 1) → TellsUpTo shows (n + 1) old new
one_more_told shows n old mid new before told =
    subst (λ (k : ℕ). TellsUpTo shows k old new) (sym (add-one n))
    (mid, before, subst (λ (k : ℕ). shows mid new k) (add-one n) told)
