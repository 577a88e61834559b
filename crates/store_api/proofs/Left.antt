-- What an emitter leaves to the others over its store.
use Rattle.std.proofs.Common.{◌≡◌, ◌≢◌, ℕ, Option, Some, ap, sym, ◌∙◌, subst}
use Rattle.store_api.specs.Holdings.{Holdings, or_else, no_account, no_page, page_of, IsPageOf}
use Rattle.store_api.specs.Conditions.{IsIdle}
use Rattle.store_api.specs.Emitters.{SameFor, OthersStay}
use Rattle.store_api.specs.EmitterLaws.{IsLeft, EmittersLeaveOthers}
use Rattle.store_api.proofs.Puts.{there}

module _ (t : ℕ) (old new : Holdings) (same : SameFor t old new) where
  page_left : (p : ℕ) → IsPageOf t old p → new.pages p ≡ old.pages p
  page_left p own =
      let is : old.pages p ≡ Some (page_of p old) = there no_page (old.pages p) own.lives in
      (same.pages p (page_of p old) own.client).1 is ∙ sym is

  idle_left : IsIdle t old → IsIdle t new
  idle_left idle =
      record {
        pages = λ q page is own. idle.pages q page ((same.pages q page own).0 is) own;
        loans = λ q loan is own. idle.loans q loan ((same.loans q loan own).0 is) own;
      }

is_left : (t : ℕ) (client : Option ℕ) (old new : Holdings) → OthersStay client old new → client ≢ Some t → IsLeft t old new
is_left t client old new stay apart =
    let same : SameFor t old new = stay.others t apart in
    record {
      own = record {
        block_len = stay.block_len;
        told = stay.told;
        own = λ s is. subst (λ (x : ℕ). SameFor x old new) (ap (or_else t) is) same;
      };
      account = ap (or_else no_account) same.account;
      pages = page_left t old new same;
      idle = idle_left t old new same;
    }

pub emitters_leave_others : EmittersLeaveOthers
emitters_leave_others client creates_old creates old new before after stay grows =
    record {
      others = λ t apart. is_left t client old new stay apart;
      held = stay.alone;
      signs = grows.alone;
    }
