-- Calls of an operator and of an emitter beside it, one after the other.
use Rattle.std.proofs.Common.{◌≡◌, ◌≢◌, ◌∙◌, inl, inr, ℕ, ◌<◌, ◌≤◌, List, [], ◌++◌, Option, Some, None, IsSome, refl, ap, sym, subst, arith, append-nil, append_assoc}
use Rattle.std.proofs.lemmas.Bool.{cases_eq}
use Rattle.row_codec.specs.declared.values.Value.{Value}
use Rattle.store_api.specs.declared.op_err.OpErr.{OpErr}
use Rattle.store_api.specs.declared.op_err.OpErr.TheVariants.{Pool, Sink}
use Rattle.store_api.specs.Emitters.{CameOf, GrowsBy, HasClient, IsSameEmitter, KeepsRoom, OthersStay, SameFor, SameOwn}
use Rattle.store_api.specs.Holdings.{Account, Holdings, account_of, no_account, or_else}
use Rattle.store_api.specs.Signs.{Grows, Signs}
use Rattle.store_api.proofs.Answered.{answered_before}
use Rattle.store_api.proofs.Growing.{grows_refl, grows_trans}
use Rattle.store_api.proofs.Untouched.{others_stay}
use Rattle.partition_stack.specs.Emitting.{IsBeside, LeavesBeside, StandsStill, Stood, WentOn, room_with}
use Rattle.partition_stack.specs.Leaving.{LeavesOthers}
use Rattle.partition_stack.proofs.Left.{others_then, same_then}
use Rattle.partition_stack.proofs.Making.{counts_both, counts_emit, counts_none}

-- ---- rows went to an emitter

keeps_same : (client : Option ℕ) (h : Holdings) → KeepsRoom client h h
keeps_same None h = tt
keeps_same (Some t) h = omega arith

keeps_then : (client : Option ℕ) (a b c : Holdings) → KeepsRoom client a b → KeepsRoom client b c → KeepsRoom client a c
keeps_then None a b c one two = tt
keeps_then (Some t) a b c one two = omega (arith, one, two)

-- nothing was handed on
pub stood_none : {m : ℕ} (admits : List Value → Type 0) (client : Option ℕ) (faults : ℕ) (h : Holdings) (signs : Signs) → HasClient client h → Stood admits admits client client faults faults m m h h signs signs
stood_none {m} admits client faults h signs lives =
    record {
      admits_same = λ row. (λ is. is, λ is. is);
      client_same = refl;
      lives = lives;
      never_falls = omega arith;
      others = others_stay client h;
      room = keeps_same client h;
      grows = grows_refl signs;
      alone = λ none. refl;
      made = counts_none m signs;
    }

pub stood_more : {m0 m1 m2 : ℕ} (admits0 admits1 admits2 : List Value → Type 0) (client0 client1 client2 : Option ℕ) (f0 f1 f2 : ℕ) (h0 h1 h2 : Holdings) (s0 s1 s2 : Signs) → Stood admits0 admits1 client0 client1 f0 f1 m0 m1 h0 h1 s0 s1 → Stood admits1 admits2 client1 client2 f1 f2 m1 m2 h1 h2 s1 s2 → Stood admits0 admits2 client0 client2 f0 f2 m0 m2 h0 h2 s0 s2
stood_more {m0} {m1} {m2} admits0 admits1 admits2 client0 client1 client2 f0 f1 f2 h0 h1 h2 s0 s1 s2 one two =
    record {
      admits_same = λ row. (λ is. (two.admits_same row).0 ((one.admits_same row).0 is), λ is. (one.admits_same row).1 ((two.admits_same row).1 is));
      client_same = two.client_same ∙ one.client_same;
      lives = subst (λ (o : Option ℕ). HasClient o h2) one.client_same two.lives;
      never_falls = let x = one.never_falls in let y = two.never_falls in omega (arith, x, y);
      others = others_then client0 h0 h1 h2 one.others (subst (λ (o : Option ℕ). OthersStay o h1 h2) one.client_same two.others);
      room = keeps_then client0 h0 h1 h2 one.room (subst (λ (o : Option ℕ). KeepsRoom o h1 h2) one.client_same two.room);
      grows = grows_trans s0 s1 s2 one.grows two.grows;
      alone = λ none. two.alone (one.client_same ∙ none) ∙ one.alone none;
      made = counts_both 0 0 0 m0 m1 m2 s0 s1 s2 (omega arith) one.made two.made;
    }

-- it took one row
pub stood_row : {most_old most : List (List Value) → ℕ} (admits_old admits : List Value → Type 0) (client_old client : Option ℕ) (f0 f1 m0 m1 : ℕ) (old new : Holdings) (before after : Signs) → IsSameEmitter admits_old admits client_old client most_old most → HasClient client_old new → f0 ≤ f1
    → OthersStay client_old old new → KeepsRoom client_old old new → GrowsBy client_old m0 m1 before after → Stood admits_old admits client_old client f0 f1 m0 m1 old new before after
stood_row admits_old admits client_old client f0 f1 m0 m1 old new before after same lives less others room grows =
    record {
      admits_same = same.admits_same;
      client_same = same.client_same;
      lives = lives;
      never_falls = less;
      others = others;
      room = room;
      grows = grows.grows;
      alone = grows.alone;
      made = counts_emit m0 m1 before after grows.pages;
    }

pub came_behind : (f0 f1 f2 : ℕ) (s0 s1 s2 : Signs) (e : OpErr) → f0 ≤ f1 → Grows s0 s1 → CameOf f1 f2 s1 s2 e → CameOf f0 f2 s0 s2 e
came_behind f0 f1 f2 s0 s1 s2 (Pool e) less grows came = answered_before e s0 s1 s2 grows came
came_behind f0 f1 f2 s0 s1 s2 Sink less grows came = λ below. let rose : f1 < f2 = came below in omega (arith, rose, less)

-- ---- what calls leave

pub account_same : (t : ℕ) (old new : Holdings) → SameFor t old new → account_of t new ≡ account_of t old
account_same t old new same = ap (or_else no_account) same.account

own_number : (u v : ℕ) → Some v ≡ Some u → u ≡ v
own_number u v same = cc

own_room : (t : ℕ) (client : Option ℕ) (old new : Holdings) (before after : Signs) → LeavesOthers t old new before after → room_with t client old ≤ room_with t client new
own_room t None old new before after leaves = leaves.room
own_room t (Some u) old new before after leaves =
    let room = leaves.room in
    elim (cases_eq u t) [
      | inl same ↦
          let reserved = leaves.reserved in
          let was : (account_of u old).reservation ≡ (account_of t old).reservation = ap (λ (n : ℕ). (account_of n old).reservation) same in
          let now : (account_of u new).reservation ≡ (account_of t new).reservation = ap (λ (n : ℕ). (account_of n new).reservation) same in
          omega (arith, room, reserved, was, now)
      | inr other ↦
          let theirs : (account_of u new).reservation ≡ (account_of u old).reservation = ap (λ (x : Account). x.reservation) (account_same u old new (leaves.others.others u (λ same. other (own_number u t same)))) in
          omega (arith, room, theirs)
    ]

pub left_beside : (t : ℕ) (client : Option ℕ) (old new : Holdings) (before after : Signs) → LeavesOthers t old new before after → LeavesBeside t client old new before after
left_beside t client old new before after leaves =
    record {
      block_len = leaves.others.block_len;
      session = leaves.others.session;
      query = leaves.others.query;
      limit = leaves.others.limit;
      live_clients = leaves.others.live_clients;
      told = leaves.others.told;
      reservation = leaves.others.reservation;
      others = λ u mine theirs. leaves.others.others u (λ same. mine (own_number u t same));
      reserved = leaves.reserved;
      room = own_room t client old new before after leaves;
      grows = leaves.grows;
    }

pub emit_room : (t : ℕ) (client : Option ℕ) (old new : Holdings) → client ≢ Some t → OthersStay client old new → KeepsRoom client old new → room_with t client old ≤ room_with t client new
emit_room t None old new apart others keeps =
    let own : (account_of t new).reservation ≡ (account_of t old).reservation = ap (λ (x : Account). x.reservation) (account_same t old new (others.others t apart)) in
    let same = (others.alone refl).room in
    omega (arith, own, same)
emit_room t (Some u) old new apart others keeps =
    let own : (account_of t new).reservation ≡ (account_of t old).reservation = ap (λ (x : Account). x.reservation) (account_same t old new (others.others t apart)) in
    omega (arith, own, keeps)

pub beside_emit : (t : ℕ) (client : Option ℕ) (old new : Holdings) (before after : Signs) → client ≢ Some t → OthersStay client old new → KeepsRoom client old new → Grows before after → LeavesBeside t client old new before after
beside_emit t client old new before after apart others keeps grows =
    record {
      block_len = others.block_len;
      session = others.session;
      query = others.query;
      limit = others.limit;
      live_clients = others.live_clients;
      told = others.told;
      reservation = others.reservation;
      others = λ u mine theirs. others.others u theirs;
      reserved = let same = ap (λ (x : Account). x.reservation) (account_same t old new (others.others t apart)) in omega (arith, same);
      room = emit_room t client old new apart others keeps;
      grows = grows;
    }

pub beside_then : (t : ℕ) (client : Option ℕ) (h0 h1 h2 : Holdings) (s0 s1 s2 : Signs) → LeavesBeside t client h0 h1 s0 s1 → LeavesBeside t client h1 h2 s1 s2 → LeavesBeside t client h0 h2 s0 s2
beside_then t client h0 h1 h2 s0 s1 s2 one two =
    record {
      block_len = two.block_len ∙ one.block_len;
      session = two.session ∙ one.session;
      query = two.query ∙ one.query;
      limit = two.limit ∙ one.limit;
      live_clients = two.live_clients ∙ one.live_clients;
      told = two.told ∙ one.told;
      reservation = let x = one.reservation in let y = two.reservation in omega (arith, x, y);
      others = λ u mine theirs. same_then u h0 h1 h2 (one.others u mine theirs) (two.others u mine theirs);
      reserved = let x = one.reserved in let y = two.reserved in omega (arith, x, y);
      room = let x = one.room in let y = two.room in omega (arith, x, y);
      grows = grows_trans s0 s1 s2 one.grows two.grows;
    }

-- ---- an emitter that stands

-- what is an emitter's stays while the operator calls its store
pub same_beside : (t : ℕ) (client : Option ℕ) (old new : Holdings) (before after : Signs) → client ≢ Some t → LeavesOthers t old new before after → SameOwn client old new
same_beside t client old new before after apart leaves =
    record {
      block_len = leaves.others.block_len;
      told = leaves.others.told;
      own = λ u is. leaves.others.others u (λ same. apart (is ∙ sym same));
    }

pub lives_own : (t : ℕ) (client : Option ℕ) (old new : Holdings) (before after : Signs) → client ≢ Some t → LeavesOthers t old new before after → HasClient client old → HasClient client new
lives_own t None old new before after apart leaves lives = tt
lives_own t (Some u) old new before after apart leaves lives = subst IsSome (sym (leaves.others.others u (λ same. apart (sym same))).account) lives

pub went_none : (was now : List (List Value) → Type 0) → ((rows : List (List Value)) → was rows → now rows) → WentOn was now
went_none was now same taken took = ([], subst now (sym (append-nil taken)) (same taken took))

pub went_then : (was mid now : List (List Value) → Type 0) → WentOn was mid → WentOn mid now → WentOn was now
went_then was mid now one two taken took =
    let first = one taken took in
    let second = two (taken ++ first.0) first.1 in
    (first.0 ++ second.0, subst now (append_assoc taken first.0 second.0) second.1)

module _ (admits : List Value → Type 0) (client : Option ℕ) (faults : ℕ) (was now : List (List Value) → Type 0) (t : ℕ) (old new : Holdings) (before after : Signs) where
  pub stands_left : IsBeside t client old → LeavesOthers t old new before after → ((rows : List (List Value)) → was rows → now rows) → StandsStill admits admits client client faults faults was now new
  stands_left beside leaves same =
      record {
        admits_same = λ row. (λ is. is, λ is. is);
        client_same = refl;
        lives = lives_own t client old new before after beside.apart leaves beside.lives;
        never_falls = omega arith;
        took = went_none was now same;
      }

pub stands_emit : {m n : ℕ} (admits_old admits : List Value → Type 0) (client_old client : Option ℕ) (faults_old faults : ℕ) (was now : List (List Value) → Type 0) (old new : Holdings) (before after : Signs) → Stood admits_old admits client_old client faults_old faults m n old new before after → WentOn was now → StandsStill admits_old admits client_old client faults_old faults was now new
stands_emit admits_old admits client_old client faults_old faults was now old new before after stood went =
    record {
      admits_same = stood.admits_same;
      client_same = stood.client_same;
      lives = stood.lives;
      never_falls = stood.never_falls;
      took = went;
    }

module _ (admits0 admits1 admits2 : List Value → Type 0) (client0 client1 client2 : Option ℕ) (f0 f1 f2 : ℕ) (was mid now : List (List Value) → Type 0) (h1 h2 : Holdings) where
  pub stands_then : StandsStill admits0 admits1 client0 client1 f0 f1 was mid h1 → StandsStill admits1 admits2 client1 client2 f1 f2 mid now h2 → StandsStill admits0 admits2 client0 client2 f0 f2 was now h2
  stands_then one two =
      record {
        admits_same = λ row. (λ is. (two.admits_same row).0 ((one.admits_same row).0 is), λ is. (one.admits_same row).1 ((two.admits_same row).1 is));
        client_same = two.client_same ∙ one.client_same;
        lives = subst (λ (o : Option ℕ). HasClient o h2) one.client_same two.lives;
        never_falls = let x = one.never_falls in let y = two.never_falls in omega (arith, x, y);
        took = went_then was mid now one.took two.took;
      }

pub stands_none : (admits : List Value → Type 0) (client : Option ℕ) (faults : ℕ) (was : List (List Value) → Type 0) (h : Holdings) → HasClient client h → StandsStill admits admits client client faults faults was was h
stands_none admits client faults was h lives =
    record { admits_same = λ row. (λ is. is, λ is. is); client_same = refl; lives = lives; never_falls = omega arith; took = went_none was was (λ rows took. took) }

-- it is beside the operator still
pub beside_stood : {m n : ℕ} (t : ℕ) (admits_old admits : List Value → Type 0) (client_old client : Option ℕ) (faults_old faults : ℕ) (old new : Holdings) (before after : Signs) → IsBeside t client_old old → Stood admits_old admits client_old client faults_old faults m n old new before after → IsBeside t client new
beside_stood t admits_old admits client_old client faults_old faults old new before after beside stood =
    record {
      apart = λ same. beside.apart (sym stood.client_same ∙ same);
      lives = subst (λ (o : Option ℕ). HasClient o new) (sym stood.client_same) stood.lives;
    }

pub beside_stands : (t : ℕ) (admits_old admits : List Value → Type 0) (client_old client : Option ℕ) (faults_old faults : ℕ) (was now : List (List Value) → Type 0) (old new : Holdings) → IsBeside t client_old old → StandsStill admits_old admits client_old client faults_old faults was now new → IsBeside t client new
beside_stands t admits_old admits client_old client faults_old faults was now old new beside stands =
    record {
      apart = λ same. beside.apart (sym stands.client_same ∙ same);
      lives = subst (λ (o : Option ℕ). HasClient o new) (sym stands.client_same) stands.lives;
    }
