-- A page's bytes have its length, and its session's own entries tell them.
use Rattle.std.proofs.Common.{◌≡◌, ◌≢◌, ℕ, ◌≤◌, ◌==◌, true, false, if◌then◌else◌, Some, None, List, [], ◌∷◌, ◌++◌, length, replicate, refl, ap, sym, ◌∙◌, subst, inl, inr, ne_eqb, eqb-true}
use Rattle.std.proofs.lemmas.List.{length-replicate}
use Rattle.std.specs.FinMap.{get}
use Rattle.reservation_tree.proofs.Maps.{same_or_other}
use Rattle.pool_model.specs.declared.event.Event.{Event}
use Rattle.pool_model.specs.declared.event.Event.TheVariants.{AddTracker, Create, Unpin}
use Rattle.pool_model.specs.declared.entry.Entry.{Entry}
use Rattle.pool_model.specs.Bytes.{bytes_of}
use Rattle.pool_model.specs.State.{Page, Session, State}
use Rattle.pool_model.specs.Sums.{length_of}
use Rattle.pool_model.specs.Owning.{IsClientOf}
use Rattle.pool_model.specs.LookingBack.{opens, made_by, Made, makes, left_in, content_from}
use Rattle.pool_model.specs.MayFollow.{Allows, MayFollow}
use Rattle.pool_model.specs.Effects.{after}
use Rattle.pool_model.specs.Sound.{IsSound}
use Rattle.pool_model.specs.HistoryLaws.{made}
use Rattle.pool_model.proofs.Seats.{some_is}
use Rattle.pool_model.proofs.Made.{live_before, makes_next}
use Rattle.pool_model.proofs.Frames.{entries_leave_rest}
use Rattle.pool_model.proofs.Failures.{PagesOwned}
use Rattle.pool_model.proofs.OwnEntries.{content_more, made_by_other, made_more}
use Rattle.pool_model.proofs.Untouched.{leaves, not_left, content_stays, own_untouched, AreUntouched}

-- what is told of the bytes of a page that was made so
pub record Shows (block_len : ℕ) (h : List Entry) (p : ℕ) (m : Made) : Type 0 where
  pub whole : length (content_from p (replicate (bytes_of block_len m.blocks) 0) h) ≡ bytes_of block_len m.blocks
  pub own : (old : List ℕ) → content_from p old (made_by h m.session) ≡ content_from p old h

-- an unpin leaves as many bytes as the page has
left_long : (before : List Entry) (s : State) (maker : ℕ) (event : Event) → Allows before s maker event → (p : ℕ) (x : Page) → get s.pages p ≡ Some x
    → (old : List ℕ) → length old ≡ length_of s x.blocks → length (left_in p event old) ≡ length_of s x.blocks
left_long before s maker (Unpin q content) may p x is old long =
    elim (q == p) as (λ b. (q == p) ≡ b → length (if b then content else old) ≡ length_of s x.blocks) [
      | true ↦ λ here.
          let same : may.page ≡ x = some_is may.page x (sym may.own.lives ∙ ap (get s.pages) (eqb-true q p here) ∙ is) in
          may.whole ∙ ap (λ (y : Page). length_of s y.blocks) same
      | false ↦ λ other. long
    ] refl
left_long before s maker _ may p x is old long = long

-- another session's entries leave no bytes in the page
left_by_owner : (before : List Entry) (s : State) (maker : ℕ) (event : Event) → Allows before s maker event → (p : ℕ) (x : Page) → get s.pages p ≡ Some x → maker ≢ x.session → leaves p event ≡ false
left_by_owner before s maker (Unpin q content) may p x is apart = ne_eqb q p (λ here.
    let same : may.page ≡ x = some_is may.page x (sym may.own.lives ∙ ap (get s.pages) here ∙ is) in
    apart (sym may.own.own ∙ ap (λ (y : Page). y.session) same))
left_by_owner before s maker _ may p x is apart = refl

-- a session that has a page doesn't open
not_opening : (before : List Entry) (s : State) (maker : ℕ) (event : Event) → Allows before s maker event → (x : Session) → get s.sessions maker ≡ Some x → opens event ≡ false
not_opening before s maker (AddTracker t parent limit (Some quota)) may x is = let no : None ≡ Some x = sym may.none ∙ is in cc
not_opening before s maker _ may x is = refl

-- an event that makes a page is its session's, opens none, and leaves no bytes in it
record IsMaking (maker p : ℕ) (event : Event) (m : Made) : Type 0 where
  by : maker ≡ m.session
  calm : opens event ≡ false
  nothing : leaves p event ≡ false

making : (maker p : ℕ) (event : Event) (m : Made) → makes p maker event ≡ Some m → IsMaking maker p event m
making maker p (Create q client blocks key) m is =
    elim (q == p) as (λ b. (if b then Some (record { session = maker; client = client; blocks = blocks }) else None) ≡ Some m → IsMaking maker p (Create q client blocks key) m) [
      | true ↦ λ there.
          let new : Made = record { session = maker; client = client; blocks = blocks } in
          record { by = ap (λ (n : Made). n.session) (some_is new m there); calm = refl; nothing = refl }
      | false ↦ λ there. let no : None ≡ Some m = there in cc
    ] is
making maker p _ m is = let no : None ≡ Some m = is in cc

module _ (before : List Entry) (s : State) (owned : PagesOwned s) (quiet : AreUntouched before s) (e : Entry) (allows : Allows before s e.maker e.event) (p : ℕ) where
  -- a page that was there
  shown_on : (x : Page) → get s.pages p ≡ Some x → Shows s.block_len before p (made x) → Shows s.block_len (before ++ e ∷ []) p (made x)
  shown_on x is was =
      let zeros : List ℕ = replicate (length_of s x.blocks) 0 in
      let owner : IsClientOf s x.session x.client = owned p x is in
      record {
        whole = ap length (content_more p zeros before e) ∙ left_long before s e.maker e.event allows p x is (content_from p zeros before) was.whole;
        own = λ old. elim (same_or_other e.maker x.session) [
          | inr other ↦
              ap (content_from p old) (made_by_other before e x.session other) ∙ was.own old
              ∙ sym (not_left p e.event (content_from p old before) (left_by_owner before s e.maker e.event allows p x is other)) ∙ sym (content_more p old before e)
          | inl here ↦
              let calm : opens e.event ≡ false = not_opening before s e.maker e.event allows owner.session (ap (get s.sessions) here ∙ owner.opened) in
              ap (content_from p old) (made_more before e x.session here calm) ∙ content_more p old (made_by before x.session) e
              ∙ ap (left_in p e.event) (was.own old) ∙ sym (content_more p old before e)
        ];
      }

  -- a page that was made just now
  shown_first : (m : Made) → makes p e.maker e.event ≡ Some m → Shows s.block_len (before ++ e ∷ []) p m
  shown_first m is =
      let it : IsMaking e.maker p e.event m = making e.maker p e.event m is in
      let above : s.next_name ≤ p = makes_next before s e.maker e.event allows p m is in
      let stays : (old : List ℕ) → content_from p old (before ++ e ∷ []) ≡ old = λ old.
      content_more p old before e ∙ not_left p e.event (content_from p old before) it.nothing ∙ content_stays p old before (quiet p above) in
      record {
        whole = ap length (stays (replicate (bytes_of s.block_len m.blocks) 0)) ∙ length-replicate (bytes_of s.block_len m.blocks) 0;
        own = λ old.
            ap (content_from p old) (made_more before e m.session it.by it.calm) ∙ content_more p old (made_by before m.session) e
            ∙ not_left p e.event (content_from p old (made_by before m.session)) it.nothing
            ∙ content_stays p old (made_by before m.session) (own_untouched p before m.session (quiet p above)) ∙ sym (stays old);
      }

-- what is told of the bytes of all live pages
abbrev pub AllShow : List Entry → State → Type 0
AllShow h s = (p : ℕ) (x : Page) → get s.pages p ≡ Some x → Shows s.block_len h p (made x)

pub all_show_on : (before : List Entry) (s : State) → IsSound s → PagesOwned s → AreUntouched before s → AllShow before s → (e : Entry) → MayFollow before s e → AllShow (before ++ e ∷ []) (after s e)
all_show_on before s sound owned quiet all e may p y is =
    let same_len : (after s e).block_len ≡ s.block_len = (entries_leave_rest s e).block_len in
    subst (λ (n : ℕ). Shows n (before ++ e ∷ []) p (made y)) (sym same_len) (elim (live_before before s e.maker e.event may.allows p y is) [
      | inl was ↦ subst (Shows s.block_len (before ++ e ∷ []) p) was.same (shown_on before s owned quiet e may.allows p was.page was.lives (all p was.page was.lives))
      | inr new ↦ shown_first before s owned quiet e may.allows p (made y) new
    ])
