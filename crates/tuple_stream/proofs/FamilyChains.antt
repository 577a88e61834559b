-- What calls on streams beside each other left, over none and over two, one after the other.
use Rattle.std.proofs.Common.{◌≡◌, ◌∙◌, ℕ, ◌+◌, List, [], ◌++◌, Option, Some, None, IsSome, option_map, refl, ap, sym, subst, inl, inr, arith}
use Rattle.std.specs.Bool.{⊤}
use Rattle.std.specs.List.{sum_by}
use Rattle.std.proofs.lemmas.List.Elements.{All-append}
use Rattle.std.proofs.lemmas.List.Sums.{sum_by-append}
use Rattle.pool_model.specs.declared.event.Event.{Event}
use Rattle.store_api.specs.Holdings.{Account, LivePage, unused_of}
use Rattle.store_api.specs.Conditions.{IsLiveClient}
use Rattle.store_api.specs.Tokens.{ClientToken}
use Rattle.store_api.proofs.Growing.{grows_refl, grows_trans}
use Rattle.tuple_stream.specs.Touches.{with_unused}
use Rattle.tuple_stream.specs.Trails.{IsBuilding, all_left}
use Rattle.tuple_stream.specs.Families.{AllClosed, AreShaped, Family, FamilySteps, GoesAll, HaveReadAll, LaysAll, TouchesAll, pages_in}
use Rattle.tuple_stream.proofs.BuildingQuiet.{creates_join, left_join, none_come}
use Rattle.tuple_stream.proofs.Chains.{same_account}
use Rattle.tuple_stream.proofs.Frames.{still_some}
use Rattle.tuple_stream.proofs.PinsFirst.{has_pin_back, has_pin_front, pins_first_join}
use Rattle.tuple_stream.proofs.Sinces.{since_joined, since_now, since_so}

-- ---- over none

pub touches_none : (t : ℕ) (f : Family) → TouchesAll t f f
touches_none t f =
    record {
      block_len = refl;
      session = refl;
      query = refl;
      limit = refl;
      reservation = refl;
      room = refl;
      above = refl;
      live_clients = refl;
      loans = refl;
      told = refl;
      clients = λ q apart. refl;
      account = λ lives. same_account (f.held.clients t) lives (unused_of t f.held) refl;
      pages = λ q lives outside. (refl, outside);
      back = λ q lives outside. (refl, outside);
      unused = refl;
      slots = refl;
    }

none_read : (f : Family) → AllClosed f → HaveReadAll f []
none_read f closed = record { first = tt; pinned = inr closed }

family_none : (laid : List Event → Type 0) (t : ℕ) (f : Family) → AreShaped t f → laid [] → FamilySteps laid t f f
family_none laid t f is none =
    record {
      shaped = is;
      long = refl;
      sized = λ blocks sized. sized;
      touches = touches_none t f;
      trail = since_now laid f.signs.trail none;
      grows = grows_refl f.signs;
    }

pub lays_none : (K R : Type 0) (t : ℕ) (f : Family) → AreShaped t f → FamilySteps (LaysAll K R f f) t f f
lays_none K R t f is =
    family_none (LaysAll K R f f) t f is
    (record { creates = omega arith; building = λ steady. none_come.building; left = λ steady w. omega arith; reads = λ reading. none_read f })

pub goes_none : (t : ℕ) (f : Family) → AreShaped t f → FamilySteps (GoesAll f f) t f f
goes_none t f is = family_none (GoesAll f f) t f is (record { creates = refl; reads = none_read f })

-- ---- over two

account_twice : (o mid new : Option Account) (first second : ℕ) → IsSome o → mid ≡ option_map (with_unused first) o → (IsSome mid → new ≡ option_map (with_unused second) mid) → new ≡ option_map (with_unused second) o
account_twice None mid new first second lives one two = absurd cc
account_twice (Some account) mid new first second lives one two =
    two (subst (λ (o : Option Account). IsSome o) (sym one) refl) ∙ ap (option_map (with_unused second)) one

module _ (a b c : Family) where
  pub touches_both : (t : ℕ) → TouchesAll t a b → TouchesAll t b c → TouchesAll t a c
  touches_both t one two =
      record {
        block_len = two.block_len ∙ one.block_len;
        session = two.session ∙ one.session;
        query = two.query ∙ one.query;
        limit = two.limit ∙ one.limit;
        reservation = two.reservation ∙ one.reservation;
        room = two.room ∙ one.room;
        above = two.above ∙ one.above;
        live_clients = two.live_clients ∙ one.live_clients;
        loans = two.loans ∙ one.loans;
        told = two.told ∙ one.told;
        clients = λ q apart. two.clients q apart ∙ one.clients q apart;
        account = λ lives. account_twice (a.held.clients t) (b.held.clients t) (c.held.clients t) (unused_of t b.held) (unused_of t c.held) lives (one.account lives) two.account;
        pages = λ q lives outside.
            let first = one.pages q lives outside in
            let next = two.pages q (subst (λ (o : Option LivePage). IsSome o) (sym first.0) lives) first.1 in
            (next.0 ∙ first.0, next.1);
        back = λ q lives outside.
            let next = two.back q lives outside in
            let first = one.back q (subst (λ (o : Option LivePage). IsSome o) (sym next.0) lives) next.1 in
            (first.0 ∙ next.0, first.1);
        unused = two.unused ∙ one.unused;
        slots = two.slots ∙ one.slots;
      }

  -- whatever holds of the events of both
  pub family_trans : (P Q R : List Event → Type 0) (t : ℕ) → ((first next : List Event) → P first → Q next → R (first ++ next)) → FamilySteps P t a b → FamilySteps Q t b c → FamilySteps R t a c
  family_trans P Q R t join one two =
      record {
        shaped = two.shaped;
        long = two.long ∙ one.long;
        sized = λ blocks sized. two.sized blocks (one.sized blocks sized);
        touches = touches_both t one.touches two.touches;
        trail = since_joined P Q R a.signs.trail b.signs.trail c.signs.trail join one.trail two.trail;
        grows = grows_trans a.signs b.signs c.signs one.grows two.grows;
      }

  read_both : (first next : List Event) → HaveReadAll b first → (AllClosed b → HaveReadAll c next) → HaveReadAll c (first ++ next)
  read_both first next one two =
      elim one.pinned [
        | inl pin ↦ record { first = pins_first_join first next one.first (inl pin); pinned = inl (has_pin_front first next pin) }
        | inr closed ↦
            let more = two closed in
            record {
              first = pins_first_join first next one.first (inr more.first);
              pinned = elim more.pinned [ inl pin ↦ inl (has_pin_back first next pin) | inr none ↦ inr none ];
            }
      ]

  pub lays_both : {K K2 R R2 : Type 0} (t : ℕ) → (K → K2) → (R → R2) → FamilySteps (LaysAll K R a b) t a b → FamilySteps (LaysAll K2 R2 b c) t b c → FamilySteps (LaysAll K R a c) t a c
  lays_both {K} {K2} {R} {R2} t so reading =
      family_trans (LaysAll K R a b) (LaysAll K2 R2 b c) (LaysAll K R a c) t
      (λ first next one two. record {
        creates = let all = creates_join first next in omega (arith, all, one.creates, two.creates);
        building = λ steady. All-append IsBuilding first next (one.building steady) (two.building (so steady));
        left = λ steady w.
            let all : sum_by w (all_left (first ++ next)) ≡ sum_by w (all_left first) + sum_by w (all_left next) = ap (sum_by w) (left_join first next) ∙ sum_by-append w (all_left first) (all_left next) in
            let was = one.left steady w in
            let now = two.left (so steady) w in
            omega (arith, all, was, now);
        reads = λ reads closed. read_both first next (one.reads reads closed) (two.reads (reading reads));
      })

  pub goes_both : (t : ℕ) → FamilySteps (GoesAll a b) t a b → FamilySteps (GoesAll b c) t b c → FamilySteps (GoesAll a c) t a c
  goes_both t =
      family_trans (GoesAll a b) (GoesAll b c) (GoesAll a c) t
      (λ first next one two. record {
        creates = let all = creates_join first next in omega (arith, all, one.creates, two.creates);
        reads = λ closed. read_both first next (one.reads closed) two.reads;
      })

-- the same under conditions that say more
pub lays_under : {K K2 R R2 : Type 0} (t : ℕ) (f g : Family) → (K → K2) → (R → R2) → FamilySteps (LaysAll K2 R2 f g) t f g → FamilySteps (LaysAll K R f g) t f g
lays_under {K} {K2} {R} {R2} t f g so reading steps =
    record {
      shaped = steps.shaped;
      long = steps.long;
      sized = steps.sized;
      touches = steps.touches;
      trail = since_so (LaysAll K2 R2 f g) (LaysAll K R f g) f.signs.trail g.signs.trail
          (λ events lays. record { creates = lays.creates; building = λ k. lays.building (so k); left = λ k. lays.left (so k); reads = λ r. lays.reads (reading r) }) steps.trail;
      grows = steps.grows;
    }

-- calls that read, after which there are as many pages
pub lays_goes : {K : Type 0} (t : ℕ) (f g : Family) → FamilySteps (LaysAll K ⊤ f g) t f g → pages_in g ≡ pages_in f → FamilySteps (GoesAll f g) t f g
lays_goes {K} t f g steps same =
    record {
      shaped = steps.shaped;
      long = steps.long;
      sized = steps.sized;
      touches = steps.touches;
      trail = since_so (LaysAll K ⊤ f g) (GoesAll f g) f.signs.trail g.signs.trail
          (λ events lays. record { creates = let all = lays.creates in omega (arith, all, same); reads = lays.reads tt }) steps.trail;
      grows = steps.grows;
    }

-- the client stays live
pub client_stays : {laid : List Event → Type 0} (c : ClientToken) (f g : Family) → FamilySteps laid c.tracker f g → IsLiveClient c f.held → IsLiveClient c g.held
client_stays c f g steps lives =
    subst (λ (o : Option Account). IsSome o) (sym (steps.touches.account lives)) (still_some (f.held.clients c.tracker) (unused_of c.tracker g.held) lives)
