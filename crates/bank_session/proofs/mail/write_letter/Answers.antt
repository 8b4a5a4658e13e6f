use Rattle.bank_session.proofs.mail.write_letter.Goals as goal

pub returns-in-Ok-clause-ends : goal.returns-in-Ok-clause-ends
returns-in-Ok-clause-ends g c setup_left setup_left' left left' setup_faults setup_faults' faults faults' =
    c.write_to.ensures.ends setup_left setup_left' left left' setup_faults setup_faults' faults faults' c.args.name.now c.in-Ok.ensures.0
