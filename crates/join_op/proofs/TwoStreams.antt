-- Two streams that are all that a client has, from call to call. For tests.
use Rattle.std.proofs.Common.{◌≡◌, ◌≢◌, ◌∙◌, ℕ, ◌+◌, ◌*◌, [], Option, Some, IsSome, refl, ap, sym, subst, arith, eq-eqb, if◌then◌else◌}
use Rattle.std.specs.Prelude.{is_some}
use Rattle.std.proofs.lemmas.List.Elements.{All-nil}
use Rattle.store_api.specs.Changes.{after_reserve, raised}
use Rattle.store_api.specs.Conditions.{IsIdle}
use Rattle.store_api.specs.Holdings.{Account, Holdings, LiveLoan, LivePage, account_of, no_account, or_else, unused_of}
use Rattle.store_api.specs.Signs.{Signs}
use Rattle.store_api.specs.Tokens.{ClientToken}
use Rattle.tuple_stream.specs.Spending.{Empties}
use Rattle.tuple_stream.specs.Steps.{scene}
use Rattle.tuple_stream.specs.Streamed.{Streamed, len_in}
use Rattle.tuple_stream.specs.Streams.{IsApart, IsShaped}
use Rattle.tuple_stream.specs.Touches.{Touches, held}
use Rattle.tuple_stream.proofs.Beside.{beside_disjoint, beside_shape}
use Rattle.tuple_stream.proofs.Empty.{empty, empty_shaped}
use Rattle.tuple_stream.proofs.Frames.{client_kept}
use Rattle.partition_stack.proofs.Sides.{disjoint_back}
use Rattle.join_op.specs.Alone.{AreAlone}
use Rattle.join_op.specs.Chunks.{ReadBoth}
use Rattle.join_op.proofs.BothFrames.{still_both}

raised_account : (t len : ℕ) (old new : Holdings) → new ≡ after_reserve t len old → new.clients t ≡ Some (raised len (account_of t old))
raised_account t len old new is = ap (λ (h : Holdings). h.clients t) is ∙ rw (eq-eqb t t refl) refl

-- a client that was idle and reserves two pages
pub alone_new : (c : ClientToken) (len : ℕ) (l r : Streamed) (old new : Holdings) → l ≡ empty 1 → r ≡ empty 1 → new ≡ after_reserve c.tracker (2 * len) old → len ≡ old.block_len → IsIdle c.tracker old → AreAlone c l r new
alone_new c len l r old new left right is len_is idle =
    let now = raised_account c.tracker (2 * len) old new is in
    let unused : unused_of c.tracker new ≡ (account_of c.tracker old).unused + 2 * len = ap (λ (o : Option Account). (or_else no_account o).unused) now in
    let block_len : new.block_len ≡ old.block_len = ap (λ (h : Holdings). h.block_len) is in
    let pages : new.pages ≡ old.pages = ap (λ (h : Holdings). h.pages) is in
    let loans : new.loans ≡ old.loans = ap (λ (h : Holdings). h.loans) is in
    subst (λ (s : Streamed). AreAlone c s r new) (sym left) (subst (λ (s : Streamed). AreAlone c (empty 1) s new) (sym right)
    (record {
      readable = record {
        client = subst IsSome (sym now) refl;
        left_shape = empty_shaped c.tracker 1 (empty 1) new refl refl;
        right_shape = empty_shaped c.tracker 1 (empty 1) new refl refl;
        apart = All-nil _;
        alike = refl;
        room = omega (arith, unused, block_len, len_is);
      };
      only = λ q page there one two. idle.pages q page (sym (ap (λ (f : ℕ → Option LivePage). f q) pages) ∙ there);
      loans = λ q loan there. idle.loans q loan (sym (ap (λ (f : ℕ → Option LiveLoan). f q) loans) ∙ there);
    }))

pub alone_left : (c : ClientToken) (l now r : Streamed) (old new : Holdings) → AreAlone c l r old → Touches c.tracker l now old new → IsShaped c.tracker now new → now.page_blocks ≡ l.page_blocks → AreAlone c now r new
alone_left c l now r old new is touches shape sized =
    let held_same : held r new ≡ held r old = ap (λ (n : ℕ). if is_some r.pinned then r.page_blocks * n else 0) touches.block_len in
    let len_same : len_in now new ≡ len_in l old = ap (λ (n : ℕ). n * new.block_len) sized ∙ ap (λ (n : ℕ). l.page_blocks * n) touches.block_len in
    record {
      readable = record {
        client = client_kept c l now old new is.readable.client touches;
        left_shape = shape;
        right_shape = beside_shape touches is.readable.right_shape is.readable.apart;
        apart = beside_disjoint touches is.readable.right_shape is.readable.apart;
        alike = is.readable.alike ∙ sym sized;
        room = let even = touches.unused in let room = is.readable.room in omega (arith, even, room, held_same, len_same);
      };
      only = λ q page there one two.
          let back = touches.back q (subst (λ (o : Option LivePage). IsSome o) (sym there) refl) one in
          is.only q page (back.0 ∙ there) back.1 two;
      loans = λ q loan there. is.loans q loan (sym (ap (λ (loans : ℕ → Option LiveLoan). loans q) touches.loans) ∙ there);
    }

alone_turned : (c : ClientToken) (l r : Streamed) (h : Holdings) → AreAlone c l r h → AreAlone c r l h
alone_turned c l r h is =
    let same : len_in r h ≡ len_in l h = ap (λ (n : ℕ). n * h.block_len) is.readable.alike in
    record {
      readable = record {
        client = is.readable.client;
        left_shape = is.readable.right_shape;
        right_shape = is.readable.left_shape;
        apart = disjoint_back l r is.readable.apart;
        alike = sym is.readable.alike;
        room = let room = is.readable.room in omega (arith, room, same);
      };
      only = λ q page there one two. is.only q page there two one;
      loans = is.loans;
    }

pub alone_right : (c : ClientToken) (l r now : Streamed) (old new : Holdings) → AreAlone c l r old → Touches c.tracker r now old new → IsShaped c.tracker now new → now.page_blocks ≡ r.page_blocks → AreAlone c l now new
alone_right c l r now old new is touches shape sized = alone_turned c now l new (alone_left c r now l old new (alone_turned c l r old is) touches shape sized)

pub alone_read : (c : ClientToken) (client : Option ℕ) (l a r b : Streamed) (old new : Holdings) → AreAlone c l r old → ReadBoth c.tracker client l a r b old new → AreAlone c a b new
alone_read c client l a r b old new is both =
    let left : a.pages ≡ l.pages = ap (λ (x : Streamed). x.pages) both.left_same in
    let right : b.pages ≡ r.pages = ap (λ (x : Streamed). x.pages) both.right_same in
    record {
      readable = still_both c client l a r b old new is.readable both;
      only = λ q page there one two own.
          let far : IsApart q l.pages = subst (IsApart q) left one in
          let near : IsApart q r.pages = subst (IsApart q) right two in
          is.only q page ((both.pages q page own far near).0 there) far near own;
      loans = λ q loan there own. is.loans q loan ((both.loans q loan own).0 there) own;
    }

-- all pages of the one go
pub alone_dropped : (c : ClientToken) (l now r : Streamed) (old new : Holdings) (before after : Signs) → AreAlone c l r old → now ≡ empty l.page_blocks → Empties c.tracker (scene l old before) (scene now new after) → AreAlone c now r new
alone_dropped c l now r old new before after is gone went =
    alone_left c l now r old new is went.touches (empty_shaped c.tracker l.page_blocks now new gone is.readable.left_shape.sized) (ap (λ (s : Streamed). s.page_blocks) gone)

pub other_dropped : (c : ClientToken) (l r now : Streamed) (old new : Holdings) (before after : Signs) → AreAlone c l r old → now ≡ empty r.page_blocks → Empties c.tracker (scene r old before) (scene now new after) → AreAlone c l now new
other_dropped c l r now old new before after is gone went = alone_turned c now l new (alone_dropped c r now l old new before after (alone_turned c l r old is) gone went)

-- once they have no pages, the client is idle
pub alone_idle : (c : ClientToken) (l r : Streamed) (h : Holdings) → AreAlone c l r h → l.pages ≡ [] → r.pages ≡ [] → IsIdle c.tracker h
alone_idle c l r h is left right =
    record {
      pages = λ q page there. is.only q page there (subst (IsApart q) (sym left) (All-nil (λ p. p.name ≢ q))) (subst (IsApart q) (sym right) (All-nil (λ p. p.name ≢ q)));
      loans = is.loans;
    }
