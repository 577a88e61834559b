-- Partitions are joined from the top, one step after another, and before each more may be reserved.
use Rattle.std.proofs.Common.{◌≡◌, ◌∙◌, ℕ, List, Option, refl, arith}
use Rattle.std.specs.Prelude.{⊤}
use Rattle.row_codec.specs.declared.values.Value.{Value}
use Rattle.store_api.specs.Emitters.{HasClient}
use Rattle.store_api.specs.Holdings.{Holdings}
use Rattle.store_api.specs.Signs.{Signs}
use Rattle.store_api.specs.Tokens.{ClientToken}
use Rattle.store_api.specs.declared.shapes.JoinShape.{JoinShape}
use Rattle.tuple_stream.specs.Trails.{EnteredEvents, PinsFirst}
use Rattle.partition_stack.specs.Emitting.{IsBeside, LeavesBeside, StandsStill}
use Rattle.partition_stack.specs.Leaving.{LeavesOthers}
use Rattle.partition_stack.specs.Making.{MakesFew}
use Rattle.partition_stack.proofs.Emitters.{beside_stands, left_beside, stands_left, stands_none, stands_then}
use Rattle.join_op.specs.Joining.{Advances, Both, IsBetween, PinsBefore, ShowBoth, both}
use Rattle.join_op.specs.Operator.{IsOperator, operator}
use Rattle.join_op.proofs.Advances.{advances_none, advances_then}
use Rattle.join_op.proofs.Besides.{beside_more, beside_none}
use Rattle.join_op.proofs.Stepped.{advances_divided, before_more, before_none, before_still}

-- what is so between two steps: `a` is before the first one, and `b` behind the last; `still` is so while no page was pinned
pub record HasGoneDown (still : Type 0) (c : ClientToken) (shape : JoinShape) (admits_old admits : List Value → Type 0) (client_old client : Option ℕ) (faults_old faults creates_old creates : ℕ) (was now : List (List Value) → Type 0) (a b : Both) : Type 0 where
  pub between : IsBetween b
  pub op : IsOperator (operator c shape b.left b.right) b.held b.signs
  pub leaves : LeavesBeside c.tracker client_old a.held b.held a.signs b.signs
  pub blocks : b.left.page_blocks ≡ a.left.page_blocks
  pub stands : StandsStill admits_old admits client_old client faults_old faults was now b.held
  pub first : EnteredEvents (PinsBefore still) a.signs.trail b.signs.trail
  pub rows : (lefts rights : ℕ → List (List ℕ)) → ShowBoth lefts rights a → Advances shape was now creates_old creates lefts rights a b

pub gone_none : {m : ℕ} (still : Type 0) → still → (c : ClientToken) (shape : JoinShape) (admits : List Value → Type 0) (client : Option ℕ) (faults : ℕ) (was : List (List Value) → Type 0) (a : Both) → IsBetween a → IsOperator (operator c shape a.left a.right) a.held a.signs → HasClient client a.held
    → HasGoneDown still c shape admits admits client client faults faults m m was was a a
gone_none still so c shape admits client faults was a between op lives =
    record {
      between = between;
      op = op;
      leaves = beside_none c.tracker client a.held a.signs;
      blocks = refl;
      stands = stands_none admits client faults was a.held lives;
      first = before_none still a.signs.trail so;
      rows = λ lefts rights shows. advances_none shape was lefts rights a shows;
    }

module _ {m0 m1 : ℕ} (still : Type 0) (c : ClientToken) (shape : JoinShape) (admits0 admits1 : List Value → Type 0) (client0 client1 : Option ℕ) (f0 f1 : ℕ) (was mid : List (List Value) → Type 0) (a b : Both) (down : HasGoneDown still c shape admits0 admits1 client0 client1 f0 f1 m0 m1 was mid a b) where
  -- the emitter is beside the join still
  pub down_beside : IsBeside c.tracker client0 a.held → IsBeside c.tracker client1 b.held
  down_beside beside = beside_stands c.tracker admits0 admits1 client0 client1 f0 f1 was mid a.held b.held beside down.stands

  -- more was reserved
  module _ (now : List (List Value) → Type 0) (h : Holdings) (s : Signs) (beside : IsBeside c.tracker client0 a.held) (leaves : LeavesOthers c.tracker b.held h b.signs s) (stays : (taken : List (List Value)) → mid taken → now taken) where
    pub down_reserved : IsBetween (both b.left b.right h s) → IsOperator (operator c shape b.left b.right) h s → EnteredEvents PinsFirst b.signs.trail s.trail
        → ((lefts rights : ℕ → List (List ℕ)) → ShowBoth lefts rights b → ShowBoth lefts rights (both b.left b.right h s)) → MakesFew 0 b.signs s → HasGoneDown still c shape admits0 admits1 client0 client1 f0 f1 m0 m1 was now a (both b.left b.right h s)
    down_reserved between op first shows made =
        record {
          between = between;
          op = op;
          leaves = beside_more c.tracker client0 client1 a.held b.held h a.signs b.signs s down.stands.client_same down.leaves (left_beside c.tracker client1 b.held h b.signs s leaves);
          blocks = down.blocks;
          stands = stands_then admits0 admits1 admits1 client0 client1 client1 f0 f1 f1 was mid now b.held h down.stands (stands_left admits1 client1 f1 mid now c.tracker b.held h b.signs s (down_beside beside) leaves stays);
          first = before_more still ⊤ still a.signs.trail b.signs.trail s.trail (λ so any. so) down.first (before_still ⊤ b.signs.trail s.trail tt first);
          rows = λ lefts rights shown.
              let one = down.rows lefts rights shown in
              advances_then shape was mid now lefts rights a b (both b.left b.right h s) one
              (advances_divided shape mid now one.lefts_now one.rights_now stays b (both b.left b.right h s)
              (record { lefts_now = one.lefts_now; rights_now = one.rights_now; shows = shows one.lefts_now one.rights_now one.shows; same = λ count. refl; lighter = λ w. omega arith; most = 0; deeper = omega arith; made = made }));
        }

  -- and a step more was taken
  pub down_stepped : {m2 : ℕ} (next all : Type 0) → (still → next → all) → (admits2 : List Value → Type 0) (client2 : Option ℕ) (f2 : ℕ) (now : List (List Value) → Type 0) (d : Both) → IsBetween d × ((lefts rights : ℕ → List (List ℕ)) → ShowBoth lefts rights b → Advances shape mid now m1 m2 lefts rights b d)
      → IsOperator (operator c shape d.left d.right) d.held d.signs → LeavesBeside c.tracker client1 b.held d.held b.signs d.signs → d.left.page_blocks ≡ b.left.page_blocks → StandsStill admits1 admits2 client1 client2 f1 f2 mid now d.held
      → EnteredEvents (PinsBefore next) b.signs.trail d.signs.trail → HasGoneDown all c shape admits0 admits2 client0 client2 f0 f2 m0 m2 was now a d
  down_stepped next all both admits2 client2 f2 now d ok op leaves blocks stands first =
      record {
        between = ok.0;
        op = op;
        leaves = beside_more c.tracker client0 client1 a.held b.held d.held a.signs b.signs d.signs down.stands.client_same down.leaves leaves;
        blocks = blocks ∙ down.blocks;
        stands = stands_then admits0 admits1 admits2 client0 client1 client2 f0 f1 f2 was mid now b.held d.held down.stands stands;
        first = before_more still next all a.signs.trail b.signs.trail d.signs.trail both down.first first;
        rows = λ lefts rights shows.
            let one = down.rows lefts rights shows in
            advances_then shape was mid now lefts rights a b d one (ok.1 one.lefts_now one.rights_now one.shows);
      }
