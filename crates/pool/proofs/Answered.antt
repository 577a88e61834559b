-- What is true behind asks that were answered one after the other.
use Rattle.std.proofs.Common.{◌≡◌, ◌≢◌, ℕ, zero, suc, ◌+◌, ◌*◌, ◌<◌, ◌≤◌, min, Bool, false, List, [], ◌∷◌, ◌++◌, length, map, Some, None, Result, Ok, Err, is_some, inl, inr, refl, sym, ap, ◌∙◌, subst, arith, length-append}
use Rattle.std.proofs.lemmas.List.{append_assoc, append-nil, map-append}
use Rattle.std.proofs.lemmas.List.Elements.{All-cons, All-head, All-nil, All-tail}
use Rattle.std.proofs.Math.Nat.{suc-mul}
use Rattle.std.specs.FinMap.{get, insert}
use Rattle.std.specs.List.{All}
use Rattle.reservation_tree.specs.declared.errors.PoolErr.{PoolErr}
use Rattle.reservation_tree.proofs.Maps.{get_same, get_other, same_or_other}
use Rattle.pool_model.specs.State.{Opening}
use Rattle.pool_model.specs.Legal.{IsLegal}
use Rattle.turn_table.specs.declared.view.View.{View}
use Rattle.turn_table.specs.Lists.{needed, same, times, without}
use Rattle.turn_table.specs.Knowledge.{GrewBeside, NeedsOnly}
use Rattle.turn_table.specs.Steps.{parted}
use Rattle.turn_table.proofs.Sums.{same_self, total-append}
use Rattle.own_entries.specs.Busy.{busy_from}
use Rattle.own_entries.specs.OwnHoldings.{holdings_of}
use Rattle.session_calls.specs.Ready.{IsResting}
use Rattle.session_calls.specs.Told.{held_in}
use Rattle.store_api.specs.Holdings.{Holdings}
use Rattle.pool.specs.declared.ask.Ask.{Ask}
use Rattle.pool.specs.declared.left.Left.{Left}
use Rattle.pool.specs.declared.item.Item.{Item}
use Rattle.pool.specs.Items.{door, history, needs_of, own_in}
use Rattle.pool.specs.Seats.{Quotas, live_in, quotas_in, taken_in}
use Rattle.pool.specs.Sitting.{shared}
use Rattle.pool.specs.Seating.{HasBegun, beginning_items}
use Rattle.pool.specs.Remaining.{first_refusal, left_behind, less}
use Rattle.pool.specs.Asking.{AreAnswered, HaveCome, all_numbers}
use Rattle.pool.specs.Admitting.{item_of}
use Rattle.pool.specs.Parting.{AllComing, CanHand, IsComing, handed_out}
use Rattle.pool.proofs.AllRights.{same_none}
use Rattle.pool.proofs.Asked.{few_granted, granted}
use Rattle.pool.proofs.Begun.{begun, begun_rests, own_first}
use Rattle.pool.proofs.Beside.{own_beside}
use Rattle.pool.proofs.Listed.{history_more}
use Rattle.pool.proofs.Needed.{beginning_needs}
use Rattle.pool.proofs.Parted.{handed_more}
use Rattle.pool.proofs.Passes.{door_stays, numbers_stay}
use Rattle.pool.proofs.Seated.{live_begun, quotas_begun, taken_begun}

-- these rights let any session come whose number has none
pub record LetsIn (items : List Item) (rights : List ℕ) : Type 0 where
  pub opens : 0 < times door rights
  pub numbers : (m : ℕ) → m < 240 → get (quotas_in items) m ≡ None → 0 < times m rights

-- first items of sessions stand behind these items
pub record Adds (before after : List Item) : Type 0 where
  pub more : List Item
  pub is : after ≡ before ++ more
  pub back : map item_of (history more) ≡ more
  pub needs : (rights : List ℕ) → LetsIn before rights → NeedsOnly needs_of rights more
  pub still : (m : ℕ) → get (quotas_in after) m ≡ None → get (quotas_in before) m ≡ None
  pub lives : (m x : ℕ) → m < 240 → get (quotas_in before) m ≡ Some x → (needed needs_of m more ≡ 0) × (get (quotas_in after) m ≡ Some x)

pub adds_none : (before after : List Item) → after ≡ before → Adds before after
adds_none before after same = record {
  more = [];
  is = same ∙ sym (append-nil before);
  back = refl;
  needs = λ rights lets r some. absurd (omega (arith, some));
  still = λ m none. ap (λ (items : List Item). get (quotas_in items) m) (sym same) ∙ none;
  lives = λ m x low there. (refl, ap (λ (items : List Item). get (quotas_in items) m) same ∙ there);
}

none_some : (x : ℕ) → None ≡ Some x → ⊥
none_some x is = cc

module _ (before : List Item) (m query limit quota least : ℕ) (low : m < 240) (fresh : get (quotas_in before) m ≡ None) where
  abbrev now : List Item
  now = before ++ beginning_items m query limit quota least

  quotas_now : quotas_in now ≡ insert (quotas_in before) m quota
  quotas_now = quotas_begun before m query limit quota least fresh

  other_none : (k : ℕ) → get (quotas_in now) k ≡ None → k ≢ m
  other_none k none here =
      none_some quota (sym none ∙ ap (λ (q : Quotas). get q k) quotas_now ∙ ap (get (insert (quotas_in before) m quota)) here ∙ get_same (quotas_in before) m quota)

  pub adds_one : Adds before now
  adds_one = record {
    more = beginning_items m query limit quota least;
    is = refl;
    back = refl;
    needs = λ rights lets. beginning_needs rights lets.opens m (lets.numbers m low fresh) query limit quota least;
    still = λ k none. sym (get_other (quotas_in before) m quota k (other_none k none)) ∙ ap (λ (q : Quotas). get q k) (sym quotas_now) ∙ none;
    lives = λ k x small there.
        let apart : k ≢ m = λ here. none_some x (sym fresh ∙ ap (get (quotas_in before)) (sym here) ∙ there) in
        let a : same k door ≡ 0 = same_none k door (λ is. omega (arith, is, small)) in
        let b : same k m ≡ 0 = same_none k m apart in
        (omega (arith, a, b), ap (λ (q : Quotas). get q k) quotas_now ∙ get_other (quotas_in before) m quota k apart ∙ there);
  }

  -- the number is handed out
  pub lets_in_more : (rights : List ℕ) → LetsIn before rights → (0 < times m rights) × LetsIn now (without m rights)
  lets_in_more rights lets = (
    lets.numbers m low fresh,
    record {
      opens = door_stays before m query limit quota least rights low fresh lets.opens;
      numbers = numbers_stay before m query limit quota least rights low fresh lets.numbers;
    },
  )

pub adds_then : (a b c : List Item) → Adds a b → Adds b c → Adds a c
adds_then a b c first second = record {
  more = first.more ++ second.more;
  is = second.is ∙ ap (λ (items : List Item). items ++ second.more) first.is ∙ append_assoc a first.more second.more;
  back =
      ap (map item_of) (history_more first.more second.more) ∙ map-append item_of (history first.more) (history second.more)
      ∙ ap (λ (items : List Item). items ++ map item_of (history second.more)) first.back ∙ ap (λ (items : List Item). first.more ++ items) second.back;
  needs = λ rights lets r some.
      let both : needed needs_of r (first.more ++ second.more) ≡ needed needs_of r first.more + needed needs_of r second.more = total-append (λ i. times r (needs_of i)) first.more second.more in
      let later : LetsIn b rights = record { opens = lets.opens; numbers = λ m low none. lets.numbers m low (first.still m none) } in
      one_of r rights (needed needs_of r first.more) (needed needs_of r second.more) (first.needs rights lets r) (second.needs rights later r) (omega (arith, both, some));
  still = λ m none. first.still m (second.still m none);
  lives = λ m x low there.
      let one = first.lives m x low there in
      let other = second.lives m x low one.1 in
      let none = one.0 in
      let none_too = other.0 in
      let both : needed needs_of m (first.more ++ second.more) ≡ needed needs_of m first.more + needed needs_of m second.more = total-append (λ i. times m (needs_of i)) first.more second.more in
      (omega (arith, both, none, none_too), other.1);
}
  where
    one_of : (r : ℕ) (rights : List ℕ) (p q : ℕ) → (0 < p → 0 < times r rights) → (0 < q → 0 < times r rights) → 0 < p + q → 0 < times r rights
    one_of r rights zero q f g some = g (omega (arith, some))
    one_of r rights (suc p) q f g some = f (omega arith)

pub come_adds : (ask : Ask) (before : List Item) (ms : List ℕ) (after : List Item) → HaveCome ask before ms after → Adds before after
come_adds ask before [] after come = adds_none before after come
come_adds ask before (m ∷ ms) after come =
    adds_then before (before ++ beginning_items m come.0 ask.limit ask.quota ask.least) after (adds_one before m come.0 ask.limit ask.quota ask.least come.1 come.2)
    (come_adds ask (before ++ beginning_items m come.0 ask.limit ask.quota ask.least) ms after come.3)

pub answered_adds : (asks : List Ask) (left : Left) (before : List Item) (answers : List (Result (List ℕ) PoolErr)) (after : List Item) → AreAnswered asks left before answers after → Adds before after
answered_adds [] left before [] after are = adds_none before after are
answered_adds [] left before (r ∷ answers) after are = absurd are
answered_adds (ask ∷ asks) left before [] after are = absurd are
answered_adds (ask ∷ asks) left before (Ok ms ∷ answers) after are =
    adds_then before are.2 after (come_adds ask before ms are.2 are.3) (answered_adds asks (left_behind ask.count ask left) are.2 answers after are.4)
answered_adds (ask ∷ asks) left before (Err e ∷ answers) after are = answered_adds asks left before answers after are.1

-- how many slots are taken, and how many sessions are live
pub come_taken : (ask : Ask) (before : List Item) (ms : List ℕ) (after : List Item) → HaveCome ask before ms after → taken_in after ≡ taken_in before + length ms * ask.quota
come_taken ask before [] after come = let same : taken_in after ≡ taken_in before = ap taken_in come in omega (arith, same)
come_taken ask before (m ∷ ms) after come =
    let one : taken_in (before ++ beginning_items m come.0 ask.limit ask.quota ask.least) ≡ taken_in before + ask.quota = taken_begun before m come.0 ask.limit ask.quota ask.least come.2 in
    let rest = come_taken ask (before ++ beginning_items m come.0 ask.limit ask.quota ask.least) ms after come.3 in
    let all : suc (length ms) * ask.quota ≡ length ms * ask.quota + ask.quota = suc-mul (length ms) ask.quota in
    omega (arith, one, rest, all)

pub come_live : (ask : Ask) (before : List Item) (ms : List ℕ) (after : List Item) → HaveCome ask before ms after → live_in after ≡ live_in before + length ms
come_live ask before [] after come = let same : live_in after ≡ live_in before = ap live_in come in omega (arith, same)
come_live ask before (m ∷ ms) after come =
    let one : live_in (before ++ beginning_items m come.0 ask.limit ask.quota ask.least) ≡ live_in before + 1 = live_begun before m come.0 ask.limit ask.quota ask.least come.2 in
    let rest = come_live ask (before ++ beginning_items m come.0 ask.limit ask.quota ask.least) ms after come.3 in
    omega (arith, one, rest)

-- the rights of all numbers can be handed out
pub come_hand : (ask : Ask) (before : List Item) (ms : List ℕ) (after : List Item) (v : View Item) → HaveCome ask before ms after → LetsIn before v.rights → CanHand ms v.rights × LetsIn after (handed_out ms v).rights
come_hand ask before [] after v come lets = (tt, subst (λ (items : List Item). LetsIn items v.rights) (sym come) lets)
come_hand ask before (m ∷ ms) after v come lets =
    let one : (0 < times m v.rights) × LetsIn (before ++ beginning_items m come.0 ask.limit ask.quota ask.least) (without m v.rights) = lets_in_more before m come.0 ask.limit ask.quota ask.least come.1 come.2 v.rights lets in
    let rest = come_hand ask (before ++ beginning_items m come.0 ask.limit ask.quota ask.least) ms after (parted (Some m) v) come.3 one.1 in
    ((one.0, rest.0), rest.1)

can_append : (a b : List ℕ) (v : View Item) → CanHand a v.rights → CanHand b (handed_out a v).rights → CanHand (a ++ b) v.rights
can_append [] b v first second = second
can_append (m ∷ a) b v first second = (first.0, can_append a b (parted (Some m) v) first.1 second)

pub answered_hand : (asks : List Ask) (left : Left) (before : List Item) (answers : List (Result (List ℕ) PoolErr)) (after : List Item) (v : View Item) → AreAnswered asks left before answers after → LetsIn before v.rights
    → CanHand (all_numbers answers) v.rights × LetsIn after (handed_out (all_numbers answers) v).rights
answered_hand [] left before [] after v are lets = (tt, subst (λ (items : List Item). LetsIn items v.rights) (sym are) lets)
answered_hand [] left before (r ∷ answers) after v are lets = absurd are
answered_hand (ask ∷ asks) left before [] after v are lets = absurd are
answered_hand (ask ∷ asks) left before (Ok ms ∷ answers) after v are lets =
    let first = come_hand ask before ms are.2 v are.3 lets in
    let rest = answered_hand asks (left_behind ask.count ask left) are.2 answers after (handed_out ms v) are.4 first.1 in (
      can_append ms (all_numbers answers) v first.0 rest.0,
      subst (λ (w : View Item). LetsIn after w.rights) (sym (handed_more ms (all_numbers answers) v)) rest.1,
    )
answered_hand (ask ∷ asks) left before (Err e ∷ answers) after v are lets = answered_hand asks left before answers after v are.1 lets

pub answered_live : (asks : List Ask) (left : Left) (before : List Item) (answers : List (Result (List ℕ) PoolErr)) (after : List Item) → AreAnswered asks left before answers after → live_in after ≡ live_in before + length (all_numbers answers)
answered_live [] left before [] after are = let same : live_in after ≡ live_in before = ap live_in are in omega (arith, same)
answered_live [] left before (r ∷ answers) after are = absurd are
answered_live (ask ∷ asks) left before [] after are = absurd are
answered_live (ask ∷ asks) left before (Ok ms ∷ answers) after are =
    let first = come_live ask before ms are.2 are.3 in
    let rest = answered_live asks (left_behind ask.count ask left) are.2 answers after are.4 in
    let all : length (ms ++ all_numbers answers) ≡ length ms + length (all_numbers answers) = length-append ms (all_numbers answers) in
    omega (arith, first, rest, all)
answered_live (ask ∷ asks) left before (Err e ∷ answers) after are = answered_live asks left before answers after are.1

-- what others enter changes nothing of a session
module _ (o : Opening) (told : Bool) (m : ℕ) (before after : List Item) (adds : Adds before after) (none : needed needs_of m adds.more ≡ 0) where
  same_one : (r : ℕ) → 0 < same r m + 0 → r ≡ m
  same_one r some = elim (same_or_other r m) [
    | inl is ↦ is
    | inr other ↦ let never : same r m ≡ 0 = same_none r m other in absurd (omega (arith, never, some))
  ]

  grew : GrewBeside needs_of (m ∷ []) before after
  grew = record { behind = adds.more; grew = adds.is; beside = λ r has. subst (λ (k : ℕ). needed needs_of k adds.more ≡ 0) (sym (same_one r has)) none }

  pub own_same : own_in m after ≡ own_in m before
  own_same = own_beside (m ∷ []) before after grew m (let one : same m m ≡ 1 = same_self m in omega (arith, one))

  held_same : held_in o (shared told) m (history after) ≡ held_in o (shared told) m (history before)
  unfolding held_in
  held_same = ap (holdings_of o.block_len m (shared told)) own_same

  pub begun_still : {limit quota least : ℕ} → HasBegun o.block_len told limit quota least (held_in o (shared told) m (history before)) → HasBegun o.block_len told limit quota least (held_in o (shared told) m (history after))
  begun_still {limit} {quota} {least} = subst (HasBegun o.block_len told limit quota least) (sym held_same)

  pub rests_still : IsResting o (shared told) m (history before) → IsResting o (shared told) m (history after)
  rests_still was = record {
    number = was.number;
    live = ap (λ (h : Holdings). is_some h.free_slots) held_same ∙ was.live;
    few = subst (λ (h : Holdings). h.live_clients ≤ 16) (sym held_same) was.few;
    still = λ p. ap (busy_from p false) own_same ∙ was.still p;
  }

-- each session that came did nothing since
pub come_coming : (o : Opening) (told : Bool) (ask : Ask) (before : List Item) (ms : List ℕ) (after all : List Item) → HaveCome ask before ms after → Adds after all → IsLegal o (history all) → ask.least ≤ ask.limit → All (IsComing o told all ask) ms
come_coming o told ask before [] after all come adds legal fits = All-nil (IsComing o told all ask)
come_coming o told ask before (m ∷ ms) after all come adds legal fits =
    let now : List Item = before ++ beginning_items m come.0 ask.limit ask.quota ask.least in
    let since : Adds now all = adds_then now after all (come_adds ask now ms after come.3) adds in
    let there : get (quotas_in now) m ≡ Some ask.quota = ap (λ (q : Quotas). get q m) (quotas_begun before m come.0 ask.limit ask.quota ask.least come.2) ∙ get_same (quotas_in before) m ask.quota in
    let none : needed needs_of m since.more ≡ 0 = (since.lives m ask.quota come.1 there).0 in
    All-cons (IsComing o told all ask) m ms (record {
      number = come.1;
      fits = fits;
      held = begun_still o told m now all since none (begun o told before m come.0 ask.limit ask.quota ask.least);
      rests = rests_still o told m now all since none (begun_rests o told before m come.0 ask.limit ask.quota ask.least come.1);
      legal = legal;
      query = come.0;
      own = own_same o told m now all since none ∙ own_first o told before m come.0 ask.limit ask.quota ask.least;
    }) (come_coming o told ask now ms after all come.3 adds legal fits)

own_fits : (n : ℕ) (ask : Ask) (left : Left) → 0 < n → first_refusal n ask left ≡ None → ask.least ≤ ask.limit
own_fits zero ask left some none = absurd (omega (arith, some))
own_fits (suc n) ask left some none = (granted ask left n none).own

behind_low : (n : ℕ) (ask : Ask) (left : Left) → left.numbers ≤ 240 → (left_behind n ask left).numbers ≤ 240
behind_low zero ask left low = low
behind_low (suc n) ask left low = behind_low n ask (less ask left) (omega (arith, low))

pub answered_coming : (o : Opening) (told : Bool) (most : ℕ) (asks : List Ask) (left : Left) (before : List Item) (answers : List (Result (List ℕ) PoolErr)) (after : List Item) → left.numbers ≤ 240
    → All (λ ask. min ask.count 240 ≤ most) asks → All (λ ask. 1 ≤ ask.count) asks → AreAnswered asks left before answers after → IsLegal o (history after) → AllComing o told after most asks answers
answered_coming o told most [] left before [] after low few some are legal = tt
answered_coming o told most [] left before (r ∷ answers) after low few some are legal = absurd are
answered_coming o told most (ask ∷ asks) left before [] after low few some are legal = absurd are
answered_coming o told most (ask ∷ asks) left before (Ok ms ∷ answers) after low few some are legal =
    let count : length ms ≡ ask.count = are.1 in
    let here : min ask.count 240 ≤ most = All-head (λ x. min x.count 240 ≤ most) ask asks few in
    let within : ask.count ≤ left.numbers = few_granted ask.count ask left are.0 in
    let lower : (left_behind ask.count ask left).numbers ≤ 240 = behind_low ask.count ask left low in (
      omega (arith, count, here, within, low),
      come_coming o told ask before ms are.2 after are.3 (answered_adds asks (left_behind ask.count ask left) are.2 answers after are.4) legal (own_fits ask.count ask left (All-head (λ x. 1 ≤ x.count) ask asks some) are.0),
      answered_coming o told most asks (left_behind ask.count ask left) are.2 answers after lower (All-tail (λ x. min x.count 240 ≤ most) ask asks few) (All-tail (λ x. 1 ≤ x.count) ask asks some) are.4 legal,
    )
answered_coming o told most (ask ∷ asks) left before (Err e ∷ answers) after low few some are legal =
    answered_coming o told most asks left before answers after low (All-tail (λ x. min x.count 240 ≤ most) ask asks few) (All-tail (λ x. 1 ≤ x.count) ask asks some) are.1 legal
