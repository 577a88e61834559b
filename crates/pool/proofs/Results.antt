-- What both answers of a call have.
use Rattle.std.proofs.Common.{Option, Some, None, IfSome, IfNone, Result, Ok, Err, IfOk, IfErr, OnOk, OnErr}

module _ {A E : Type 0} where
  pub by_result : {X : Type 0} (r : Result A E) → OnOk r X → OnErr r X → X
  by_result (Ok x) ok err = ok
  by_result (Err e) ok err = err

  pub ok_or_err : {X : Type 0} {P : A → Type 0} {Q : E → Type 0} (r : Result A E) → IfOk r P → IfErr r Q → ((x : A) → P x → X) → ((e : E) → Q e → X) → X
  ok_or_err (Ok x) ok err so other = so x ok
  ok_or_err (Err e) ok err so other = other e err

-- of what refuses a call before anything is written, if something does
module _ {A : Type 0} where
  pub some_or_none : {X Q : Type 0} {P : A → Type 0} (r : Option A) → IfSome r P → IfNone r Q → ((x : A) → P x → X) → (Q → X) → X
  some_or_none (Some x) some none so other = so x some
  some_or_none None some none so other = other none
