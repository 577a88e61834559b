-- The value of one owner's pool is laid down, and taken up again.
use Rattle.std.proofs.Common.{◌≡◌, ℕ, Bool, List, [], ◌∷◌, ◌++◌, length, drop, Some, refl, sym, ap, ◌∙◌, subst}
use Rattle.std.proofs.lemmas.List.{append-nil}
use Rattle.outside.specs.declared.slot.Slot.{Ghosts}
use Rattle.pool_model.specs.State.{Opening}
use Rattle.store_api.specs.Entries.{by}
use Rattle.own_entries.specs.AboveLaws.{AllBy}
use Rattle.session_calls.specs.declared.hand.Hand.{Hand}
use Rattle.session_calls.specs.Having.{MayGive, Sight, Taken, sight_of}
use Rattle.session_calls.proofs.Lists.{alone_more}
use Rattle.local_pool.specs.declared.sole.Shelf.{Shelf}
use Rattle.local_pool.specs.Shelving.{LiesThere, counted_since, entered_since, sees}

since_more : {A : Type 0} (a b : List A) → drop (length a) (a ++ b) ≡ b
since_more [] b = refl
since_more (e ∷ a) b = since_more a b

-- what was seen, and what came since
pub seen_on : {A : Type 0} (seen now more : List A) → now ≡ seen ++ more → seen ++ drop (length seen) now ≡ now
seen_on {A} seen now more is = ap (λ (h : List A). seen ++ drop (length seen) h) is ∙ ap (λ (h : List A). seen ++ h) (since_more seen more) ∙ sym is

-- where nothing was seen
pub seen_first : {A : Type 0} (seen now : List A) → seen ≡ [] → seen ++ drop (length seen) now ≡ now
seen_first {A} seen now none = seen_on seen now now (ap (λ (h : List A). h ++ now) (sym none))

module _ {D : Type 0} (slot : Ghosts D) (o : Opening) (told : Bool) where
  -- what is seen now is all
  module _ (shelf : Shelf D) (hand : Hand D) (may : MayGive slot o told (sees shelf) hand) (now : Sight)
      (seen : now.trail ≡ shelf.seen ++ entered_since shelf.seen hand.trail) (counted : now.counts ≡ shelf.counted ++ counted_since shelf.counted hand.counts) where
    pub all_seen : now ≡ sight_of hand
    all_seen =
        let trail : now.trail ≡ hand.trail = seen ∙ seen_on shelf.seen hand.trail (by hand.session may.worked.events) may.worked.trail in
        let counts : now.counts ≡ hand.counts = counted ∙ seen_on shelf.counted hand.counts may.worked.went may.worked.counts in
        λ i. record { trail = trail i; counts = counts i }

    pub laid_down : AllBy hand.session shelf.seen → LiesThere slot o told (record { value = Some hand; seen = now.trail; counted = now.counts }) hand.session
    laid_down alone = record {
      hand = hand;
      there = refl;
      session = refl;
      sight = sym all_seen;
      alone = subst (AllBy hand.session) (sym (ap (λ (s : Sight). s.trail) all_seen ∙ may.worked.trail)) (alone_more hand.session shelf.seen may.worked.events alone);
      whole = may.whole;
    }

  pub taken_up : (shelf : Shelf D) (m : ℕ) (lies : LiesThere slot o told shelf m) (hand : Hand D) → hand ≡ lies.hand → Taken slot o told m (sees shelf) (sees shelf) hand
  taken_up shelf m lies hand same =
      subst (Taken slot o told m (sees shelf) (sees shelf)) (sym same) (record {
        session = lies.session;
        sight = lies.sight;
        others = [];
        grew = sym (append-nil shelf.seen);
        beside = tt;
        went = [];
        counts = sym (append-nil shelf.counted);
        whole = lies.whole;
      })
