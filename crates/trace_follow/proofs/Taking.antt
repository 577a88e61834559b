-- The queue of one client is taken out of its table, changed, and put back.
use Rattle.std.proofs.Common.{◌≡◌, ℕ, [], Option, Some, None, unwrap_or, ap, sym, ◌∙◌, subst, inl, inr}
use Rattle.std.specs.Ordering.{nat_cmp}
use Rattle.std.specs.FinMap.{FinMap, get, insert, remove}
use Rattle.std.specs.BTreeMap.{insert_entry}
use Rattle.reservation_tree.proofs.Maps.{get_same, get_other, removed_same, removed_other}
use Rattle.trace_follow.specs.declared.follower.Follower.{Follower}
use Rattle.trace_follow.specs.Queues.{Queue, queue_at}
use Rattle.trace_follow.specs.Waiting.{taken, Requeues, TakesDirty, Unqueues, QueuesDirty}

module _ (old : FinMap nat_cmp Queue) (c : ℕ) where
  some_queue : (queue : Queue) → get old c ≡ Some queue → queue_at old c ≡ queue
  some_queue queue is = ap (λ (o : Option Queue). unwrap_or o []) is

  pub put_back : (new : Queue) → Requeues old (insert (remove old c) c new) c new
  put_back new = record {
    own = ap (λ (o : Option Queue). unwrap_or o []) (get_same (remove old c) c new);
    others = λ d other. ap (λ (o : Option Queue). unwrap_or o []) (get_other (remove old c) c new d other ∙ removed_other old c d other);
  }

  pub left_out : get old c ≡ None → Requeues old (remove old c) c (queue_at old c)
  left_out none = record {
    own = ap (λ (o : Option Queue). unwrap_or o []) (removed_same old c ∙ sym none);
    others = λ d other. ap (λ (o : Option Queue). unwrap_or o []) (removed_other old c d other);
  }

pub none_taken : (old new : Follower) (c stamp : ℕ) → get old.dirty c ≡ None → new ≡ record old { dirty = remove old.dirty c } → TakesDirty old new c stamp
none_taken old new c stamp none is =
    let empty : queue_at old.dirty c ≡ [] = ap (λ (o : Option Queue). unwrap_or o []) none in
    let nothing : queue_at old.dirty c ≡ taken stamp (queue_at old.dirty c) = empty ∙ sym (ap (taken stamp) empty) in
    record { dirty = remove old.dirty c; is = is; queues = subst (Requeues old.dirty (remove old.dirty c) c) nothing (left_out old.dirty c none) }

pub some_taken : (old new : Follower) (c stamp : ℕ) (queue : Queue) → get old.dirty c ≡ Some queue → new ≡ record old { dirty = insert (remove old.dirty c) c (taken stamp queue) } → TakesDirty old new c stamp
some_taken old new c stamp queue some is = record {
  dirty = insert (remove old.dirty c) c (taken stamp queue);
  is = is;
  queues = subst (λ (q : Queue). Requeues old.dirty (insert (remove old.dirty c) c (taken stamp queue)) c (taken stamp q)) (sym (some_queue old.dirty c queue some)) (put_back old.dirty c (taken stamp queue));
}

pub not_queued : (old new : Follower) (c p : ℕ) → get old.stamps p ≡ None → new ≡ record old { stamps = remove old.stamps p } → Unqueues old new c p
not_queued old new c p none is = inl (none, is)

pub taken_out : (old mid new : Follower) (c p stamp : ℕ) → get old.stamps p ≡ Some stamp → mid ≡ record old { stamps = remove old.stamps p; clean = taken stamp old.clean } → TakesDirty mid new c stamp → Unqueues old new c p
taken_out old mid new c p stamp stamped first takes =
    let second : TakesDirty (record old { stamps = remove old.stamps p; clean = taken stamp old.clean }) new c stamp = subst (λ (u : Follower). TakesDirty u new c stamp) first takes in
    inr (stamp, record { stamped = stamped; dirty = second.dirty; is = second.is; queues = second.queues })

pub put_more : (old new : Follower) (c p : ℕ) (queue : Queue) → get old.dirty c ≡ Some queue
    → new ≡ record old { dirty = insert (remove old.dirty c) c (insert_entry nat_cmp queue old.entries p); stamps = insert old.stamps p old.entries } → QueuesDirty old new c p
put_more old new c p queue some is = record {
  dirty = insert (remove old.dirty c) c (insert_entry nat_cmp queue old.entries p);
  is = is;
  queues = subst (λ (q : Queue). Requeues old.dirty (insert (remove old.dirty c) c (insert_entry nat_cmp queue old.entries p)) c (insert_entry nat_cmp q old.entries p)) (sym (some_queue old.dirty c queue some)) (put_back old.dirty c (insert_entry nat_cmp queue old.entries p));
}

pub put_first : (old new : Follower) (c p : ℕ) → get old.dirty c ≡ None
    → new ≡ record old { dirty = insert (remove old.dirty c) c (insert_entry nat_cmp [] old.entries p); stamps = insert old.stamps p old.entries } → QueuesDirty old new c p
put_first old new c p none is =
    let empty : queue_at old.dirty c ≡ [] = ap (λ (o : Option Queue). unwrap_or o []) none in
    record {
      dirty = insert (remove old.dirty c) c (insert_entry nat_cmp [] old.entries p);
      is = is;
      queues = subst (λ (q : Queue). Requeues old.dirty (insert (remove old.dirty c) c (insert_entry nat_cmp [] old.entries p)) c (insert_entry nat_cmp q old.entries p)) (sym empty) (put_back old.dirty c (insert_entry nat_cmp [] old.entries p));
    }
