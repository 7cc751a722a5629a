use Rattle.std.proofs.Common.{ℕ, List, length, take, drop, replicate, ◌++◌, ◌≡◌, ap, ◌∙◌, arith}
use Rattle.std.proofs.Math.Seq.{take-append_seam, drop-append_seam}
use Rattle.std.proofs.lemmas.List.{drop-replicate}
use Rattle.std.proofs.lemmas.Str.{is_utf8-from_IsUtf8}
use Rattle.std.specs.Str.{is_utf8}
use Rattle.elsa_lock_free_map.proofs.name_bytes.Name.new.Goals as goal

pub invariant_of-result : goal.invariant_of-result
invariant_of-result c =
    let text : List ℕ = c.args.text.now in let n = length text in let zeros : List ℕ = replicate 23 0 in
    let first : take n (text ++ drop n zeros) ≡ text = take-append_seam text (drop n zeros) in
    let behind : drop n (text ++ drop n zeros) ≡ drop n zeros = drop-append_seam text (drop n zeros) in
    let few = c.if-len-gt-NAME_BYTES.false in
    rw (c.copy_from_slice.ensures.after ∙ c.as_bytes.ensures.value) (record { short = omega (arith, few); utf8 = ap is_utf8 first ∙ is_utf8-from_IsUtf8 text c.utf8.text; rest = behind ∙ drop-replicate n 23 0 })
