-- Calls that end pages or pin one: what their events did, over none and over two, one after the other.
use Rattle.std.proofs.Common.{◌≡◌, ◌∙◌, ℕ, ◌<◌, List, [], ◌∷◌, ◌++◌, length, slice_get, Option, Some, None, refl, ap, sym, subst, inl, inr, arith}
use Rattle.std.specs.Bool.{⊤}
use Rattle.pool_model.specs.declared.event.Event.{Event}
use Rattle.pool_model.specs.declared.event.Event.TheVariants.{Destroy}
use Rattle.store_api.specs.Tokens.{PageToken}
use Rattle.store_api.specs.Entries.{MadeThese}
use Rattle.pool_model.specs.declared.entry.Entry.{Entry}
use Rattle.store_api.specs.Signs.{Grows, Prolongs}
use Rattle.store_api.proofs.Growing.{grows_refl, grows_trans}
use Rattle.tuple_stream.specs.Streamed.{Streamed}
use Rattle.tuple_stream.specs.Touches.{Touches}
use Rattle.tuple_stream.specs.Trails.{EnteredEvents, HaveRead}
use Rattle.tuple_stream.specs.Steps.{Lays, Scene, Shaped, Steps, scene}
use Rattle.tuple_stream.specs.Spending.{Goes, PinsAgain}
use Rattle.tuple_stream.specs.Ending.{behind_first}
use Rattle.tuple_stream.proofs.BuildingQuiet.{creates_join}
use Rattle.tuple_stream.proofs.Chains.{touches_refl, touches_trans}
use Rattle.tuple_stream.proofs.Frames.{touches_counts}
use Rattle.tuple_stream.proofs.Going.{read_joined}
use Rattle.tuple_stream.proofs.PinsFirst.{has_pin_front, pins_first_join}
use Rattle.tuple_stream.proofs.Sinces.{since_any, since_joined, since_now, since_so, since_these}

module _ (a b c : Scene) where
  goes_join : (first next : List Event) → Goes a b first → Goes b c next → Goes a c (first ++ next)
  goes_join first next one two =
      record {
        creates = let all = creates_join first next in omega (arith, all, one.creates, two.creates);
        reads = λ closed. read_joined b.stream c.stream first next (one.reads closed) two.reads;
      }

  pub gone_joined : EnteredEvents (Goes a b) a.signs.trail b.signs.trail → EnteredEvents (Goes b c) b.signs.trail c.signs.trail → EnteredEvents (Goes a c) a.signs.trail c.signs.trail
  gone_joined one two = since_joined (Goes a b) (Goes b c) (Goes a c) a.signs.trail b.signs.trail c.signs.trail (λ first next was is. goes_join first next was is) one two

  -- rows may be spent after rows, and all pages dropped after anything that read
  pub goes_trans : (t : ℕ) → Steps (Goes a b) t a b → Steps (Goes b c) t b c → Steps (Goes a c) t a c
  goes_trans t one two =
      record {
        shape = two.shape;
        sized = two.sized ∙ one.sized;
        touches = touches_trans t a.stream b.stream c.stream a.held b.held c.held one.touches two.touches;
        trail = gone_joined one.trail two.trail;
        grows = grows_trans a.signs b.signs c.signs one.grows two.grows;
      }

-- where nothing was called
pub none_gone : (a : Scene) → EnteredEvents (Goes a a) a.signs.trail a.signs.trail
none_gone a = since_now (Goes a a) a.signs.trail (record { creates = refl; reads = λ closed. record { first = tt; pinned = inr closed } })

pub goes_refl : (t : ℕ) (a : Scene) → Shaped t a → Steps (Goes a a) t a a
goes_refl t a is =
    record {
      shape = is;
      sized = refl;
      touches = touches_refl t a.stream a.held;
      trail = none_gone a;
      grows = grows_refl a.signs;
    }

-- a call that let no page come
pub laid_goes : {K : Type 0} (t : ℕ) (a b : Scene) → Steps (Lays K ⊤ a b) t a b → length b.stream.pages ≡ length a.stream.pages → Steps (Goes a b) t a b
laid_goes {K} t a b step same =
    record {
      shape = step.shape;
      sized = step.sized;
      touches = step.touches;
      trail = since_so (Lays K ⊤ a b) (Goes a b) a.signs.trail b.signs.trail
          (λ events lays. record { creates = let all = lays.creates in omega (arith, all, same); reads = lays.reads tt }) step.trail;
      grows = step.grows;
    }

-- a page ended, and where none was pinned none is
ended_goes : (a b : Scene) (name maker : ℕ) → (a.stream.pinned ≡ None → b.stream.pinned ≡ None) → MadeThese maker (Destroy name ∷ []) a.signs b.signs → EnteredEvents (Goes a b) a.signs.trail b.signs.trail
ended_goes a b name maker closed made =
    since_so (λ events. events ≡ Destroy name ∷ []) (Goes a b) a.signs.trail b.signs.trail
    (λ events is. subst (Goes a b) (sym is) (record { creates = refl; reads = λ none. record { first = tt; pinned = inr (closed none) } }))
    (since_these maker (Destroy name ∷ []) a.signs b.signs made)

first_page : (pages : List PageToken) → 0 < length pages → (p : PageToken) × (slice_get pages 0 ≡ Some p)
first_page [] some = absurd (omega (arith, some))
first_page (p ∷ pages) some = (p, refl)

-- the first one ended
pub first_goes : (a b : Scene) (maker : ℕ) → 0 < length a.stream.pages → b.stream.pinned ≡ behind_first a.stream.pinned → ((p : PageToken) → slice_get a.stream.pages 0 ≡ Some p → MadeThese maker (Destroy p.name ∷ []) a.signs b.signs) → EnteredEvents (Goes a b) a.signs.trail b.signs.trail
first_goes a b maker some is made =
    let first : (p : PageToken) × (slice_get a.stream.pages 0 ≡ Some p) = first_page a.stream.pages some in
    ended_goes a b first.0.name maker (λ none. is ∙ ap behind_first none) (made first.0 first.1)

-- only which page is pinned counts
goes_as : (a b : Scene) (now : Streamed) → (b.stream.pinned ≡ None → now.pinned ≡ None) → (events : List Event) → Goes a b events → Goes a (scene now b.held b.signs) events
goes_as a b now closed events goes =
    record {
      creates = goes.creates;
      reads = λ none.
          let read : HaveRead b.stream events = goes.reads none in
          record { first = read.first; pinned = elim read.pinned [ inl pin ↦ inl pin | inr still ↦ inr (closed still) ] };
    }

-- what calls left that end pages, whose counts are set behind them
pub gone_counted : (t : ℕ) (a b : Scene) (now : Streamed) (spent used count : ℕ) → now ≡ record b.stream { spent = spent; used = used; count = count } → Shaped t (scene now b.held b.signs) → b.stream.page_blocks ≡ a.stream.page_blocks → Touches t a.stream b.stream a.held b.held → EnteredEvents (Goes a b) a.signs.trail b.signs.trail → Grows a.signs b.signs → Steps (Goes a (scene now b.held b.signs)) t a (scene now b.held b.signs)
gone_counted t a b now spent used count is shape sized touches gone grows =
    record {
      shape = shape;
      sized = ap (λ (s : Streamed). s.page_blocks) is ∙ sized;
      touches =
          touches_trans t a.stream b.stream now a.held b.held b.held touches
          (subst (λ (s : Streamed). Touches t b.stream s b.held b.held) (sym is) (touches_counts t b.stream spent used count b.held));
      trail = since_so (Goes a b) (Goes a (scene now b.held b.signs)) a.signs.trail b.signs.trail (goes_as a b now (λ none. ap (λ (s : Streamed). s.pinned) is ∙ none)) gone;
      grows = grows;
    }

-- once a page was pinned again, whatever comes
pub pinned_on : (start mid now : Option (List Entry)) → EnteredEvents PinsAgain start mid → Prolongs mid now → EnteredEvents PinsAgain start now
pinned_on start mid now pinned on =
    since_joined PinsAgain (λ _. ⊤) PinsAgain start mid now
    (λ first next was any. record { first = pins_first_join first next was.first (inl was.pinned); pinned = has_pin_front first next was.pinned }) pinned (since_any mid now on)
