use Rattle.std.proofs.Common.{◌≡◌, ◌∙◌, length, refl, inl, inr, sym, ap}
use Rattle.elsa_history.proofs.Counts.{all_receipts, lacks_one}
use Rattle.elsa_history.proofs.recorder.Recorder.close.Goals as goal

pub returns-in_default-clause-fault : goal.returns-in_default-clause-fault
returns-in_default-clause-fault g c = (c.into_inner-history.result, inr refl, c.entries.ensures.legal)

pub returns-then-count-entries-clause-fault : goal.returns-then-count-entries-clause-fault
returns-then-count-entries-clause-fault g c = (c.into_inner-history.result, inl refl, c.entries.ensures.legal)

pub returns-then-count-entries-clause-missing : goal.returns-then-count-entries-clause-missing
returns-then-count-entries-clause-missing g c = λ h e.
    let k : c.into_inner-history.result ≡ h = cc e in
    let a = rw c.entries.ensures.entries at c.in-Some.ensures.are_of in
    rw (← k) (a, lacks_one _ _ c.args.passes.items c.into_inner-history.result.1 a (λ q. c.if-count-entries.true (c.in-Some.ensures.count ∙ (q ∙ sym (ap length c.entries-2.ensures.entries)))))

pub returns-clause-recorded : goal.returns-clause-recorded
returns-clause-recorded g c =
    all_receipts _ _ c.args.passes.items c.into_inner-history.result.1 (rw c.entries.ensures.entries at c.in-Some.ensures.are_of)
    (sym c.in-Some.ensures.count ∙ (c.if-count-entries.false ∙ ap length c.entries-2.ensures.entries))

pub returns-clause-count : goal.returns-clause-count
returns-clause-count g c = sym (ap length c.entries-2.ensures.entries) ∙ (sym c.if-count-entries.false ∙ c.in-Some.ensures.count)
