-- Items by which sessions come and go leave it open whether writers have to end.
use Rattle.std.proofs.Common.{◌≡◌, List, ◌++◌, Bool, true, false, ◌||◌, refl, sym, ap, ◌∙◌}
use Rattle.pool.specs.declared.item.Item.{Item}
use Rattle.pool.specs.Items.{is_stopped}
use Rattle.pool.proofs.Listed.{stop_more}

or_none : (b : Bool) → (b || false) ≡ b
or_none true = refl
or_none false = refl

-- what was told stays told behind items without a stop
pub still_told : (stopped : Bool) (seen new items : List Item) → stopped ≡ is_stopped seen → new ≡ items → is_stopped items ≡ false → stopped ≡ is_stopped (seen ++ new)
still_told stopped seen new items told is none =
    told ∙ sym (stop_more seen new ∙ ap (λ (b : Bool). is_stopped seen || b) (ap is_stopped is ∙ none) ∙ or_none (is_stopped seen))
