-- What holds anyway holds of each error.
use Rattle.std.specs.Prelude.{Result, Ok, Err, OnErr}

pub on_error : {A E P : Type 0} (r : Result A E) → P → OnErr r P
on_error (Ok x) p = tt
on_error (Err e) p = p
