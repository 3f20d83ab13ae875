-- What a result's clauses say once it is known which it is.
use Rattle.std.specs.Prelude.{◌≡◌, true, false, Result, Ok, Err}
use Rattle.std.specs.Result.{OnOk, OnErr, is_ok}

pub on_ok : {T E : Type 0} (r : Result T E) (P : Type 0) → OnOk r P → is_ok r ≡ true → P
on_ok (Ok x) P h e = h
on_ok (Err x) P h e = cc

pub on_err : {T E : Type 0} (r : Result T E) (P : Type 0) → OnErr r P → is_ok r ≡ false → P
on_err (Ok x) P h e = cc
on_err (Err x) P h e = h
