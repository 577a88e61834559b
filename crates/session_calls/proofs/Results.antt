-- What follows from what a result is.
use Rattle.std.proofs.Common.{◌≡◌, Option, Some, None, Result, Ok, Err, IsOk, IfOk, IfErr, OnOk, OnErr, IfNone, IfSome, false, true}

module _ {A E : Type 0} where
  pub ok_so : {P Q : A → Type 0} (r : Result A E) → IfOk r P → ((x : A) → P x → Q x) → IfOk r Q
  ok_so (Ok x) is so = so x is
  ok_so (Err e) is so = tt

  pub ok_both : {P Q R : A → Type 0} (r : Result A E) → IfOk r P → IfOk r Q → ((x : A) → P x → Q x → R x) → IfOk r R
  ok_both (Ok x) one other so = so x one other
  ok_both (Err e) one other so = tt

  pub on_ok_so : {P Q : Type 0} (r : Result A E) → OnOk r P → (P → Q) → OnOk r Q
  on_ok_so (Ok x) is so = so is
  on_ok_so (Err e) is so = tt

  pub on_err_so : {P Q : Type 0} (r : Result A E) → OnErr r P → (P → Q) → OnErr r Q
  on_err_so (Ok x) is so = tt
  on_err_so (Err e) is so = so is

  pub err_so : {P Q : E → Type 0} (r : Result A E) → IfErr r P → ((e : E) → P e → Q e) → IfErr r Q
  err_so (Ok x) is so = tt
  err_so (Err e) is so = so e is

  pub none_fails : {X : Type 0} (Q : E → Type 0) (o : Option X) (r : Result A E) → IfNone o (IsOk r) → IfNone o (IfErr r Q)
  none_fails Q (Some x) r is = tt
  none_fails Q None (Ok x) is = tt
  none_fails Q None (Err e) is = let never : false ≡ true = is in cc

-- of what refuses a call before anything is written, if something does
module _ {A : Type 0} where
  pub some_so : {P Q : A → Type 0} (r : Option A) → IfSome r P → ((x : A) → P x → Q x) → IfSome r Q
  some_so (Some x) is so = so x is
  some_so None is so = tt

  pub none_so : {P Q : Type 0} (r : Option A) → IfNone r P → (P → Q) → IfNone r Q
  none_so (Some x) is so = tt
  none_so None is so = so is
