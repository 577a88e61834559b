-- A follower before the first entry.
use Rattle.std.proofs.Common.{◌≡◌, ℕ, ◌+◌, ◌*◌, ◌<◌, ◌^◌, Option, Some, None, IsSome, option_map, List, [], refl, ap, sym, ◌∙◌, subst, arith, unwrap_or, Result, Ok, Err, IfOk}
use Rattle.std.specs.Ordering.{nat_cmp}
use Rattle.std.specs.FinMap.{FinMap, get, empty, get-empty}
use Rattle.reservation_tree.specs.Total.{total}
use Rattle.reservation_tree.specs.Tracker.{children_of}
use Rattle.reservation_tree.specs.Change.{root_alone, new_root}
use Rattle.reservation_tree.proofs.Sums.{total-none}
use Rattle.reservation_tree.proofs.Members.{root_sums}
use Rattle.pool_model.specs.Bytes.{bytes_of}
use Rattle.pool_model.specs.State.{Opening, opened, Place, Page, Buffer}
use Rattle.pool_model.specs.Sums.{times_charged, times_held, is_in_memory, once, pages_for, buffers_for, bytes_in, buffer_bytes, slots_of}
use Rattle.pool_model.specs.Failures.{last_failed_read}
use Rattle.trace_follow.specs.declared.opened.Opened.{Opened}
use Rattle.trace_follow.specs.declared.rows.Asked.{Asked}
use Rattle.trace_follow.specs.declared.rows.TrackerRow.{TrackerRow}
use Rattle.trace_follow.specs.declared.rows.Under.{Under}
use Rattle.trace_follow.specs.declared.rows.Load.{Load}
use Rattle.trace_follow.specs.declared.follower.Follower.{Follower}
use Rattle.trace_follow.specs.Tables.{amount_at}
use Rattle.trace_follow.specs.Queues.{Queue, queue_at, names_in, AreStamped}
use Rattle.trace_follow.specs.Rows.{tracker_row, session_row, page_row, buffer_row, kids_of, under_at, pages_on, buffers_on, load_at}
use Rattle.trace_follow.specs.Showing.{Shows}
use Rattle.trace_follow.specs.Beginning.{Begins}
use Rattle.trace_follow.specs.Following.{OpensWith, TellsBefore, StandsFor}
use Rattle.trace_follow.proofs.Mirrored.{mirror_put}
use Rattle.trace_follow.proofs.Reserving.{both, sums}
use Rattle.trace_follow.proofs.Coming.{kids_new}

not_there : (goal : Type 0) {X : Type 0} (k : ℕ) (x : X) → get (empty {K = ℕ} {X = X} {R = nat_cmp}) k ≡ Some x → goal
not_there goal {X} k x is = let none : None ≡ Some x = sym (get-empty nat_cmp k) ∙ is in cc

none_mirrored : {X Y : Type 0} (told : X → Y) (k : ℕ) → get (empty {K = ℕ} {X = Y} {R = nat_cmp}) k ≡ option_map told (get (empty {K = ℕ} {X = X} {R = nat_cmp}) k)
none_mirrored told k = get-empty nat_cmp k ∙ sym (ap (option_map told) (get-empty nat_cmp k))

total_empty : {X : Type 0} (w : ℕ → X → ℕ) → total w empty ≡ 0
total_empty w = total-none w empty (λ k x is. not_there (w k x ≡ 0) k x is)

no_pages_for : (times : Place → ℕ) (block_len c : ℕ) → pages_for times block_len empty c ≡ 0
unfolding pages_for
no_pages_for times block_len c = total_empty _

no_buffers_for : (block_len c : ℕ) → buffers_for block_len empty c ≡ 0
unfolding buffers_for
no_buffers_for block_len c = total_empty _

no_pages_on : (c : ℕ) → pages_on empty c ≡ 0
unfolding pages_on
no_pages_on c = total_empty _

no_buffers_on : (c : ℕ) → buffers_on empty c ≡ 0
unfolding buffers_on
no_buffers_on c = total_empty _

no_slots : (m : ℕ) → slots_of empty m ≡ 0
unfolding slots_of
no_slots m = total_empty _

no_kids : (q : ℕ) → kids_of empty q ≡ 0
unfolding kids_of
no_kids q = total_empty _

no_bytes : (block_len : ℕ) → bytes_in (once is_in_memory) block_len empty + buffer_bytes block_len empty ≡ 0
unfolding bytes_in buffer_bytes
no_bytes block_len =
    let pages : total (λ (k : ℕ) (x : Page). once is_in_memory x.place * bytes_of block_len x.blocks) empty ≡ 0 = total_empty _ in
    let buffers : total (λ (k : ℕ) (x : Buffer). bytes_of block_len x.blocks) empty ≡ 0 = total_empty _ in
    omega (arith, pages, buffers)

product : (block_len blocks : ℕ) → bytes_of block_len blocks ≡ blocks * block_len
unfolding bytes_of
product block_len blocks = refl

abbrev loaded : ℕ → ℕ → ℕ → Load
loaded charge held count = record { charge = charge; held = held; count = count }

three : (a b c : ℕ) → 0 ≡ a → 0 ≡ b → 0 ≡ c → loaded 0 0 0 ≡ loaded a b c
three a b c first second third = ap (λ (n : ℕ). loaded n 0 0) first ∙ ap (λ (n : ℕ). loaded a n 0) second ∙ ap (loaded a b) third

module _ (v : Follower) (first : Opened) (begins : Begins v first) (o : Opening) (opens : OpensWith first o) where
  memory : bytes_of o.block_len o.blocks ≡ first.blocks * first.block_len
  memory = product o.block_len o.blocks ∙ ap (λ (n : ℕ). n * o.block_len) opens.blocks ∙ ap (λ (n : ℕ). first.blocks * n) opens.block_len

  root_row : TrackerRow
  root_row = record { parent = None; depth = 0; limit = first.blocks * first.block_len; reservation = 0 }

  shows : Shows v (opened o)
  shows = record {
    block_len = begins.block_len ∙ sym opens.block_len;
    trackers = record {
      rows = λ k. ap (λ (t : FinMap nat_cmp TrackerRow). get t k) begins.trackers
          ∙ mirror_put tracker_row empty empty (none_mirrored tracker_row) 0 (new_root (bytes_of o.block_len o.blocks)) (record { parent = None; depth = 0; limit = first.blocks * first.block_len; reservation = 0 })
          (ap (λ (n : ℕ). tracker_row (new_root n)) (sym memory)) k;
      sums = λ t.
          let under : children_of (root_alone (bytes_of o.block_len o.blocks)) t ≡ 0 = root_sums (bytes_of o.block_len o.blocks) t in
          let kids : kids_of (root_alone (bytes_of o.block_len o.blocks)) t ≡ kids_of empty t + 0 = kids_new empty 0 (new_root (bytes_of o.block_len o.blocks)) (get-empty nat_cmp 0) t in
          let none : kids_of empty t ≡ 0 = no_kids t in
          ap (λ (u : FinMap nat_cmp Under). under_at u t) begins.unders ∙ ap (λ (u : Option Under). unwrap_or u (sums 0 0)) (get-empty nat_cmp t) ∙ both _ _ _ _ (sym under) (omega (arith, kids, none));
    };
    sessions = record {
      rows = λ k. ap (λ t. get t k) begins.sessions ∙ none_mirrored session_row k;
      failures = λ m x since is at. not_there (since.failures ≡ x.failures) m x is;
    };
    things = record {
      pages = λ k. ap (λ t. get t k) begins.pages ∙ none_mirrored page_row k;
      buffers = λ k. ap (λ t. get t k) begins.buffers ∙ none_mirrored buffer_row k;
      loads = λ c.
          let charged : pages_for times_charged o.block_len empty c ≡ 0 = no_pages_for times_charged o.block_len c in
          let held : pages_for times_held o.block_len empty c ≡ 0 = no_pages_for times_held o.block_len c in
          let lent : buffers_for o.block_len empty c ≡ 0 = no_buffers_for o.block_len c in
          let some_pages : pages_on empty c ≡ 0 = no_pages_on c in
          let some_buffers : buffers_on empty c ≡ 0 = no_buffers_on c in
          ap (λ (u : FinMap nat_cmp Load). load_at u c) begins.loads ∙ ap (λ (u : Option Load). unwrap_or u (loaded 0 0 0)) (get-empty nat_cmp c)
          ∙ three _ _ _ (omega (arith, charged, lent)) (omega (arith, held, lent)) (omega (arith, some_pages, some_buffers));
      lent = λ m. ap (λ (u : FinMap nat_cmp ℕ). amount_at u m) begins.lent ∙ ap (λ (u : Option ℕ). unwrap_or u 0) (get-empty nat_cmp m) ∙ sym (no_slots m);
    };
    free =
        let none : bytes_in (once is_in_memory) o.block_len empty + buffer_bytes o.block_len empty ≡ 0 = no_bytes o.block_len in
        let all : bytes_of o.block_len o.blocks ≡ first.blocks * first.block_len = memory in
        begins.free ∙ omega (arith, none, all);
    queues = record {
      dirty_names = λ c.
          ap (λ (u : FinMap nat_cmp Queue). names_in (queue_at u c)) begins.dirty ∙ ap (λ (u : Option Queue). names_in (unwrap_or u [])) (get-empty nat_cmp c)
          ∙ sym (ap (λ (u : Option (List ℕ)). unwrap_or u []) (get-empty nat_cmp c));
      clean_names = ap names_in begins.clean;
      dirty_stamped = λ c. subst (AreStamped v.stamps v.entries) (sym (ap (λ (u : FinMap nat_cmp Queue). queue_at u c) begins.dirty ∙ ap (λ (u : Option Queue). unwrap_or u []) (get-empty nat_cmp c))) tt;
      clean_stamped = subst (AreStamped v.stamps v.entries) (sym begins.clean) tt;
      earlier = λ p i is. not_there (i < v.entries) p i (sym (ap (λ (u : FinMap nat_cmp ℕ). get u p) begins.stamps) ∙ is);
      own = λ p q i is at. not_there (p ≡ q) p i (sym (ap (λ (u : FinMap nat_cmp ℕ). get u p) begins.stamps) ∙ is);
    };
    next_name = begins.next_name ∙ sym opens.first_name;
    entries = begins.entries;
    few = subst (λ (n : ℕ). n < 2 ^ 64) (sym begins.entries) (omega arith);
  }

  tells : TellsBefore v []
  tells = record {
    entries = begins.entries;
    asked = λ m. (λ some. absurd (nobody m (subst (λ (a : FinMap nat_cmp Asked). IsSome (get a m)) begins.asked some)), λ has. absurd has);
    reads = λ m since at p. not_there (get since.reads p ≡ last_failed_read [] m p) m since (sym (ap (λ (a : FinMap nat_cmp Asked). get a m) begins.asked) ∙ at);
    earlier = λ m since at p i read. not_there (i < v.entries) m since (sym (ap (λ (a : FinMap nat_cmp Asked). get a m) begins.asked) ∙ at);
  }
    where
      nobody : (m : ℕ) → IsSome (get (empty {K = ℕ} {X = Asked} {R = nat_cmp}) m) → ⊥
      nobody m some = let no : IsSome {T = Asked} None = subst IsSome (get-empty nat_cmp m) some in cc

  begins_standing : StandsFor v o []
  begins_standing = record { legal = tt; shows = shows; tells = tells }

pub stands_first : (v : Follower) (first : Opened) → Begins v first → (o : Opening) → OpensWith first o → StandsFor v o []
stands_first v first begins o opens = begins_standing v first begins o opens

pub begun : {E : Type 0} (r : Result Follower E) (first : Opened) → IfOk r (λ v. Begins v first) → IfOk r (λ v. (o : Opening) → OpensWith first o → StandsFor v o [])
begun (Ok v) first begins = stands_first v first begins
begun (Err e) first begins = tt
