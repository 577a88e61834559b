-- Sessions come one after the other, and asks are answered one after the other.
use Rattle.std.proofs.Common.{◌≡◌, ℕ, suc, ◌+◌, ◌-◌, ◌*◌, ◌<◌, ◌≤◌, Bool, List, [], ◌∷◌, ◌++◌, length, drop, get_or, min, Option, Some, None, option_map, Result, Ok, Err, IfSome, vec_capacity, inl, inr, refl, sym, ap, ◌∙◌, subst, arith, length-append}
use Rattle.std.proofs.lemmas.List.{append_assoc, append-nil}
use Rattle.std.proofs.lemmas.List.Elements.{All-head, All-pop, All-tail}
use Rattle.std.proofs.Math.Nat.{suc-mul}
use Rattle.std.proofs.Math.Seq.{drop-cons}
use Rattle.std.specs.FinMap.{get}
use Rattle.std.specs.Global.{Vec}
use Rattle.std.specs.List.{All}
use Rattle.std.specs.Option.{option_to_list}
use Rattle.outside.specs.declared.slot.Slot.{Ghosts}
use Rattle.reservation_tree.specs.declared.errors.PoolErr.{PoolErr}
use Rattle.pool_model.specs.State.{Opening, Session, State}
use Rattle.pool_model.specs.Legal.{IsLegal, run, state_after}
use Rattle.pin_core.specs.declared.parts.Parts.{Parts}
use Rattle.pin_core.specs.StateOf.{state_of}
use Rattle.pin_core.specs.calls.Sessions.{query_of}
use Rattle.pin_core.specs.calls.Opening.{opening_entries, spare_of}
use Rattle.pin_core.specs.declared.tally.Tally.{Tally}
use Rattle.session_calls.specs.Having.{Sight}
use Rattle.pool.specs.declared.ask.Ask.{Ask}
use Rattle.pool.specs.declared.left.Left.{Left}
use Rattle.pool.specs.declared.item.Item.{Item}
use Rattle.pool.specs.Seats.{quotas_in}
use Rattle.pool.specs.Seating.{MustTurnAway, beginning_items}
use Rattle.pool.specs.Standing.{StandsAs}
use Rattle.pool.specs.Remaining.{first_refusal, left_behind, left_in, less, quotas_of}
use Rattle.pool.specs.Asking.{AreAnswered, HaveCome}
use Rattle.pool.specs.Admitting.{AdmittedAll, AdmittedBy, AreSlates, HasItems, HasRoomFor, Opens}
use Rattle.pool.proofs.Asked.{Granted, granted}
use Rattle.pool.proofs.Growth.{left_after}
use Rattle.pool.proofs.Stood.{stands_begun}
use Rattle.pool.proofs.Vacant.{not_all}

module _ {D : Type 0} (slot : Ghosts D) (o : Opening) (told : Bool) (first : Tally) where
  -- so many of an ask's sessions came, and others are to come
  pub record Coming (ask : Ask) (before : List Item) (ms : List ℕ) (todo : ℕ) (old : Parts D) (sight : Sight) (v : Parts D) : Type 0 where
    pub mid : List Item
    pub stands : StandsAs slot o told first mid sight v
    pub goes : (rest : List ℕ) (after : List Item) → HaveCome ask mid rest after → HaveCome ask before (ms ++ rest) after
    pub left : left_behind ask.count ask (left_in (state_of old)) ≡ left_behind todo ask (left_in (state_of v))
    pub spare : spare_of v + length ms * ask.quota ≡ spare_of old

  pub none_come : (ask : Ask) (before : List Item) (sight : Sight) (v : Parts D) → StandsAs slot o told first before sight v → Coming ask before [] ask.count v sight v
  none_come ask before sight v stands = record { mid = before; stands = stands; goes = λ rest after come. come; left = refl; spare = omega arith }

  module _ (ask : Ask) (m : ℕ) (sight later : Sight) (v new : Parts D) (opens : Opens slot ask.limit ask.quota ask.least m v new)
      (goes : later.trail ≡ sight.trail ++ opening_entries m (query_of (state_of new) m) ask.limit ask.quota ask.least) (same : later.counts ≡ sight.counts) where
    abbrev query : ℕ
    query = query_of (state_of new) m

    module _ (mid : List Item) (stands : StandsAs slot o told first mid sight v) where
      abbrev items : List Item
      items = mid ++ beginning_items m query ask.limit ask.quota ask.least

      pub stands_more : StandsAs slot o told first items later new
      stands_more = stands_begun slot o told first mid sight later v new m query ask.limit ask.quota ask.least stands opens.vacant goes same opens.enters opens.spare

      legal_more : IsLegal o (sight.trail ++ opening_entries m query ask.limit ask.quota ask.least)
      legal_more = subst (IsLegal o) goes stands_more.whole.stands.legal

      state_was : state_of v ≡ state_after o sight.trail
      state_was = stands.whole.stands.state

      pub left_more : left_in (state_of new) ≡ less ask (left_in (state_of v))
      left_more =
          ap left_in opens.enters.state
          ∙ ap (λ (s : State). left_in (run s (opening_entries m query ask.limit ask.quota ask.least))) state_was
          ∙ left_after o sight.trail m query ask.limit ask.quota ask.least legal_more (ap (λ (s : State). get s.sessions m) (sym state_was) ∙ opens.vacant) opens.number ask refl
          ∙ ap (λ (s : State). less ask (left_in s)) (sym state_was)

      pub fresh : get (quotas_in mid) m ≡ None
      fresh = sym (stands.sessions m) ∙ ap (λ (x : Option Session). option_map (λ y. y.quota) x) opens.vacant

    pub one_comes : (before : List Item) (ms : List ℕ) (n k : ℕ) (old : Parts D) → n ≡ suc k → Coming ask before ms n old sight v → Coming ask before (ms ++ m ∷ []) k old later new
    one_comes before ms n k old is was = record {
      mid = was.mid ++ beginning_items m query ask.limit ask.quota ask.least;
      stands = stands_more was.mid was.stands;
      goes = λ rest after come. subst (λ (ns : List ℕ). HaveCome ask before ns after) (sym (append_assoc ms (m ∷ []) rest)) (was.goes (m ∷ rest) after (query, opens.number, fresh was.mid was.stands, come));
      left = was.left ∙ ap (λ (n : ℕ). left_behind n ask (left_in (state_of v))) is ∙ ap (left_behind k ask) (sym (left_more was.mid was.stands));
      spare =
          let count : length (ms ++ m ∷ []) ≡ suc (length ms) = length-append ms (m ∷ []) ∙ omega arith in
          let all : length (ms ++ m ∷ []) * ask.quota ≡ length ms * ask.quota + ask.quota = ap (λ (n : ℕ). n * ask.quota) count ∙ suc-mul (length ms) ask.quota in
          let here = opens.spare in
          let then_was = was.spare in
          omega (arith, all, here, then_was);
    }

  pub all_come : (ask : Ask) (before : List Item) (ms : List ℕ) (n : ℕ) (old : Parts D) (sight : Sight) (v : Parts D) → n ≡ 0 → length ms ≡ ask.count → Coming ask before ms n old sight v → AdmittedBy slot o told first ask before ms old sight v
  all_come ask before ms n old sight v is count was = record {
    after = was.mid;
    count = count;
    come = subst (λ (ns : List ℕ). HaveCome ask before ns was.mid) (append-nil ms) (was.goes [] was.mid refl);
    stands = was.stands;
    left = sym (was.left ∙ ap (λ (n : ℕ). left_behind n ask (left_in (state_of v))) is);
    spare = let all = ap (λ (n : ℕ). n * ask.quota) count in let sum = was.spare in omega (arith, all, sum);
  }

  -- so many asks were answered
  pub record Answering (asks todo : List Ask) (before : List Item) (answers : List (Result (List ℕ) PoolErr)) (old : Parts D) (sight : Sight) (v : Parts D) : Type 0 where
    pub mid : List Item
    pub stands : StandsAs slot o told first mid sight v
    pub goes : (rest : List (Result (List ℕ) PoolErr)) (after : List Item) → AreAnswered todo (left_in (state_of v)) mid rest after → AreAnswered asks (left_in (state_of old)) before (answers ++ rest) after

  pub none_answered : (asks : List Ask) (before : List Item) (sight : Sight) (v : Parts D) → StandsAs slot o told first before sight v → Answering asks asks before [] v sight v
  none_answered asks before sight v stands = record { mid = before; stands = stands; goes = λ rest after done. done }

  module _ (asks todo : List Ask) (ask : Ask) (before : List Item) (answers : List (Result (List ℕ) PoolErr)) (old : Parts D) (sight : Sight) (v : Parts D)
      (was : Answering asks (ask ∷ todo) before answers old sight v) where
    pub one_admitted : (ms : List ℕ) (later : Sight) (new : Parts D) → first_refusal ask.count ask (left_in (state_of v)) ≡ None
        → ((items : List Item) → StandsAs slot o told first items sight v → AdmittedBy slot o told first ask items ms v later new) → Answering asks todo before (answers ++ Ok ms ∷ []) old later new
    one_admitted ms later new none admits =
        let by_it : AdmittedBy slot o told first ask was.mid ms v later new = admits was.mid was.stands in record {
          mid = by_it.after;
          stands = by_it.stands;
          goes = λ rest after done.
              subst (λ (rs : List (Result (List ℕ) PoolErr)). AreAnswered asks (left_in (state_of old)) before rs after) (sym (append_assoc answers (Ok ms ∷ []) rest))
              (was.goes (Ok ms ∷ rest) after (none, by_it.count, by_it.after, by_it.come, subst (λ (l : Left). AreAnswered todo l by_it.after rest after) by_it.left done));
        }

    pub one_refused : (e : PoolErr) → first_refusal ask.count ask (left_in (state_of v)) ≡ Some e → Answering asks todo before (answers ++ Err e ∷ []) old sight v
    one_refused e why = record {
      mid = was.mid;
      stands = was.stands;
      goes = λ rest after done.
          subst (λ (rs : List (Result (List ℕ) PoolErr)). AreAnswered asks (left_in (state_of old)) before rs after) (sym (append_assoc answers (Err e ∷ []) rest))
          (was.goes (Err e ∷ rest) after (why, done));
    }

  pub all_answered : (asks todo : List Ask) (before : List Item) (answers : List (Result (List ℕ) PoolErr)) (old : Parts D) (sight : Sight) (v : Parts D) → todo ≡ [] → Answering asks todo before answers old sight v → AdmittedAll slot o told first asks before answers old sight v
  all_answered asks todo before answers old sight v none was = record {
    after = was.mid;
    answered =
        subst (λ (rs : List (Result (List ℕ) PoolErr)). AreAnswered asks (left_in (state_of old)) before rs was.mid) (append-nil answers)
        (was.goes [] was.mid (subst (λ (l : List Ask). AreAnswered l (left_in (state_of v)) was.mid [] was.mid) (sym none) refl));
    stands = was.stands;
  }

-- what is granted must not be turned away
pub not_turned : (s : State) (ask : Ask) (n : ℕ) → Granted ask (left_in s) n → MustTurnAway s ask.limit ask.least → ⊥
not_turned s ask n is (inl full) = not_all s.sessions 240 is.some full
not_turned s ask n is (inr (inl few)) = let enough = is.own in omega (arith, enough, few)
not_turned s ask n is (inr (inr few)) = let enough = is.root in omega (arith, enough, few)

-- one session less is to come
pub one_to_come : (count i : ℕ) → i < count → count - i ≡ suc (count - (i + 1))
one_to_come count i less = omega (arith, less)

pub next_granted : (s : State) (ask : Ask) (n k : ℕ) → n ≡ suc k → first_refusal n ask (left_in s) ≡ None → Granted ask (left_in s) k
next_granted s ask n k is none = granted ask (left_in s) k (subst (λ (m : ℕ). first_refusal m ask (left_in s) ≡ None) is none)

-- so many slots are spare still
pub next_spare : (n k quota spare new : ℕ) → n ≡ suc k → n * quota ≤ spare → new + quota ≡ spare → k * quota ≤ new
next_spare n k quota spare new is enough goes =
    let all : n * quota ≡ k * quota + quota = ap (λ (m : ℕ). m * quota) is ∙ suc-mul k quota in
    omega (arith, all, enough, goes)

pub one_spare : (n k quota spare : ℕ) → n ≡ suc k → n * quota ≤ spare → quota ≤ spare
one_spare n k quota spare is enough =
    let all : n * quota ≡ k * quota + quota = ap (λ (m : ℕ). m * quota) is ∙ suc-mul k quota in
    omega (arith, all, enough)

-- between two asks
module _ {D : Type 0} (slot : Ghosts D) (o : Opening) (told : Bool) (first : Tally) where
  -- what is true behind some answers: the value stands for some items, the quotas of the asks that are left fit, and
  -- the answers are those of the asks before
  pub record Between (asks todo : List Ask) (start : Sight) (old : Parts D) (answers : List (Result (List ℕ) PoolErr)) (sight : Sight) (v : Parts D) : Type 0 where
    pub has : HasItems slot o told first sight v
    pub quotas : quotas_of todo ≤ spare_of v
    pub answering : (before : List Item) → StandsAs slot o told first before start old → Answering slot o told first asks todo before answers old sight v

  pub at_first : (asks : List Ask) (answers : List (Result (List ℕ) PoolErr)) (sight : Sight) (v : Parts D) → answers ≡ [] → HasItems slot o told first sight v → quotas_of asks ≤ spare_of v → Between asks asks sight v answers sight v
  at_first asks answers sight v none has quotas = record {
    has = has;
    quotas = quotas;
    answering = λ before stands. subst (λ (rs : List (Result (List ℕ) PoolErr)). Answering slot o told first asks asks before rs v sight v) (sym none) (none_answered slot o told first asks before sight v stands);
  }

  module _ (asks todo : List Ask) (ask : Ask) (start : Sight) (old : Parts D) (answers : List (Result (List ℕ) PoolErr)) (sight : Sight) (v : Parts D)
      (was : Between asks (ask ∷ todo) start old answers sight v) (answer : Result (List ℕ) PoolErr) where
    pub spare_for : ask.count * ask.quota + 0 ≤ spare_of v
    spare_for = let all = was.quotas in omega (arith, all)

    pub past_refused : (e : PoolErr) → first_refusal ask.count ask (left_in (state_of v)) ≡ Some e → answer ≡ Err e → Between asks todo start old (answers ++ answer ∷ []) sight v
    past_refused e why is = record {
      has = was.has;
      quotas = let all = was.quotas in omega (arith, all);
      answering = λ before stands.
          subst (λ (r : Result (List ℕ) PoolErr). Answering slot o told first asks todo before (answers ++ r ∷ []) old sight v) (sym is)
          (one_refused slot o told first asks todo ask before answers old sight v (was.answering before stands) e why);
    }

    pub past_admitted : (ms : List ℕ) (later : Sight) (new : Parts D) → first_refusal ask.count ask (left_in (state_of v)) ≡ None
        → ((items : List Item) → StandsAs slot o told first items sight v → AdmittedBy slot o told first ask items ms v later new) → answer ≡ Ok ms → Between asks todo start old (answers ++ answer ∷ []) later new
    past_admitted ms later new none admits is =
        let by_it : AdmittedBy slot o told first ask was.has.items ms v later new = admits was.has.items was.has.stands in record {
          has = record { items = by_it.after; stands = by_it.stands };
          quotas = let all = was.quotas in let goes = by_it.spare in omega (arith, all, goes);
          answering = λ before stands.
              subst (λ (r : Result (List ℕ) PoolErr). Answering slot o told first asks todo before (answers ++ r ∷ []) old later new) (sym is)
              (one_admitted slot o told first asks todo ask before answers old sight v (was.answering before stands) ms later new none admits);
        }

-- the ask at a place, and those behind it
pub at_ask : (asks : List Ask) (i : ℕ) (d : Ask) → i < length asks → drop i asks ≡ get_or asks i d ∷ drop (i + 1) asks
at_ask asks i d within =
    let next : suc i ≡ i + 1 = omega arith in
    drop-cons asks i d within ∙ ap (λ (n : ℕ). get_or asks i d ∷ drop n asks) next

-- the last of the lists goes to the next ask
module _ (ask : Ask) (todo : List Ask) (slates rest : List (Vec ℕ)) (popped : Option (Vec ℕ)) (are : AreSlates (ask ∷ todo) slates) (goes : slates ≡ rest ++ option_to_list popped) where
  both : All (HasRoomFor are.most) rest × IfSome popped (HasRoomFor are.most)
  both = All-pop (HasRoomFor are.most) slates rest popped goes are.each

  count_of : (o : Option (Vec ℕ)) → length (option_to_list o) ≤ 1
  count_of None = omega arith
  count_of (Some x) = omega arith

  pub slates_left : (slate : Vec ℕ) → popped ≡ Some slate → AreSlates todo rest
  slates_left slate is = record {
    most = are.most;
    few = All-tail (λ x. min x.count 240 ≤ are.most) ask todo are.few;
    count =
        let all : length slates ≡ length rest + length (option_to_list popped) = ap length goes ∙ length-append rest (option_to_list popped) in
        let one : length (option_to_list popped) ≡ 1 = ap (λ (x : Option (Vec ℕ)). length (option_to_list x)) is in
        let were : length slates ≡ suc (length todo) = are.count in
        omega (arith, all, one, were);
    each = both.0;
  }

  pub slate_room : (slate : Vec ℕ) → popped ≡ Some slate → ask.count ≤ 240 → (slate.items ≡ []) × (ask.count ≤ vec_capacity slate)
  slate_room slate is few =
      let here : HasRoomFor are.most slate = subst (λ (x : Option (Vec ℕ)). IfSome x (HasRoomFor are.most)) is both.1 in
      let most : min ask.count 240 ≤ are.most = All-head (λ x. min x.count 240 ≤ are.most) ask todo are.few in
      let room = here.1 in
      (here.0, omega (arith, most, room, few))

pub all_to_come : (count : ℕ) → count ≡ count - 0
all_to_come count = omega arith
