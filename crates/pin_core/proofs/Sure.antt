-- Slots that tell what they hold and give nothing else.
use Rattle.std.proofs.Common.{◌≡◌, ℕ, ◌<◌, ◌&&◌, Bool, true, false, List, [], ◌∷◌, length, Option, Some, None, refl, ap, ◌∙◌, inl}
use Rattle.std.specs.List.{slice_index_or}
use Rattle.std.proofs.lemmas.Bool.{false≢true}
use Rattle.outside.specs.Slots.{Strays, KeepsStrays, GivesHeld}
use Rattle.outside.specs.declared.slot.Slot.{Ghosts}
use Rattle.pin_core.specs.calls.Runs.{AllTell, AllGiveHeld, gives_back, is_empty, is_sure}

-- a call on a slot leaves it as sure as it was
pub sure_same : (before_tells now_tells : Bool) (before now : Option Strays) → now_tells ≡ before_tells → KeepsStrays before now → (now_tells && gives_back now) ≡ (before_tells && gives_back before)
sure_same before_tells now_tells None now tells keeps =
    ap (λ (s : Option Strays). now_tells && gives_back s) keeps ∙ ap (λ (t : Bool). t && gives_back None) tells
sure_same before_tells now_tells (Some before) None tells keeps = absurd keeps
sure_same before_tells now_tells (Some before) (Some now) tells keeps =
    ap (λ (l : List (List ℕ)). now_tells && is_empty l) keeps.0 ∙ ap (λ (t : Bool). t && is_empty before.further) tells

no_blocks : (blocks : List (List ℕ)) → is_empty blocks ≡ true → blocks ≡ []
no_blocks [] none = refl
no_blocks (b ∷ blocks) none = absurd (false≢true none)

gives_held : (before now : Option Strays) → gives_back before ≡ true → KeepsStrays before now → GivesHeld before now
gives_held None now gives keeps = absurd (false≢true gives)
gives_held (Some before) None gives keeps = absurd keeps
gives_held (Some before) (Some now) gives keeps = inl (no_blocks before.further gives)

first_of : (a b : Bool) → (a && b) ≡ true → a ≡ true
first_of true b both = refl
first_of false b both = both

second_of : (a b : Bool) → (a && b) ≡ true → b ≡ true
second_of true b both = both
second_of false b both = absurd (false≢true both)

module _ {D : Type 0} (slot : Ghosts D) (before now : List D) (sure : (i : ℕ) (d : D) → i < length before → is_sure slot (slice_index_or before i d) ≡ true) where
  pub sure_tells : AllTell slot before
  sure_tells i d inside = first_of (slot.tells (slice_index_or before i d)) (gives_back (slot.strays (slice_index_or before i d))) (sure i d inside)

  -- no load of such slots strays
  pub sure_gives : ((i : ℕ) (d : D) → i < length before → KeepsStrays (slot.strays (slice_index_or before i d)) (slot.strays (slice_index_or now i d))) → AllGiveHeld slot before now
  sure_gives keeps i d inside = gives_held (slot.strays (slice_index_or before i d)) (slot.strays (slice_index_or now i d)) (second_of (slot.tells (slice_index_or before i d)) (gives_back (slot.strays (slice_index_or before i d))) (sure i d inside)) (keeps i d inside)
