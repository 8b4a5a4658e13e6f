-- A file that waits for its reply, and is read, is the one that was written.
use Rattle.std.proofs.Common.{◌≡◌, ℕ, List, [], ◌++◌, Ok, refl, sym, ap, subst, ◌∙◌}
use Rattle.ofx_types.specs.declared.request.RequestFile.{RequestFile}
use Rattle.bank_model.specs.Sound.{IsSound}
use Rattle.record_fields.specs.FieldCoding.{u16_bytes, file_uid_bytes, moment_bytes}
use Rattle.record_fields.specs.Fields.{IsCodedAt, IsField}
use Rattle.record_fields.proofs.Steps.{ok_is, joined, apart, step}
use Rattle.record_fields.proofs.BoundedLaws.{moment_field}
use Rattle.record_fields.proofs.TextLaws.{file_uid_field}
use Rattle.event_codec.specs.Coding.{asks_bytes, file_bytes}
use Rattle.event_codec.specs.AskList.{AreAsks}
use Rattle.event_codec.proofs.AskLaws.{asks_field}
use Rattle.client_saved.specs.Bounds.{IsSoundOutstanding}
use Rattle.client_saved.specs.Coding.{outstanding_bytes}
use Rattle.client_saved.specs.Reading.{outstanding_at}
use Rattle.client_saved.specs.declared.state.Outstanding.{Outstanding}
use Rattle.event_codec.proofs.RecordLaws.{version_field}

-- ---- the file and its moment

-- a file of a user, with a password
abbrev of_user : Outstanding → List ℕ → List ℕ → Outstanding
of_user one user pass = record { at = one.at; file = record { version = one.file.version; older = one.file.older; newer = one.file.newer; user = user; pass = pass; asks = one.file.asks } }

same_file : (user : List ℕ) (one : Outstanding) → one.file.user ≡ user → one.file.pass ≡ [] → of_user one user [] ≡ one
same_file user one named free = ap (λ (u : List ℕ). of_user one u []) (sym named) ∙ ap (of_user one one.file.user) (sym free)

pub outstanding_field : (user : List ℕ) → IsField (outstanding_at user) outstanding_bytes (IsSoundOutstanding user)
unfolding outstanding_at outstanding_bytes file_bytes
outstanding_field user = record {
  holds = λ rec at found bytes le e.
      let moment = step moment_field rec at _ found bytes le e in
      let version = step version_field rec moment.next _ found bytes moment.holds.within moment.rest in
      let older = step file_uid_field rec version.next _ found bytes version.holds.within version.rest in
      let newer = step file_uid_field rec older.next _ found bytes older.holds.within older.rest in
      let asks = step asks_field rec newer.next _ found bytes newer.holds.within newer.rest in
      let file : RequestFile = record { version = version.value; older = older.value; newer = newer.value; user = user; pass = []; asks = asks.value } in
      let one : Outstanding = record { at = moment.value; file = file } in
      let made : Outstanding × ℕ = (one, asks.next) in
      let sound : IsSound file = record { version = version.fits; older = older.fits; newer = newer.fits; few = asks.fits.few; bank_first = asks.fits.bank_first; asks = asks.fits.sound } in
      let fits : IsSoundOutstanding user one = record { moment = moment.fits; file = sound; user = refl; pass = refl } in
      subst (λ (f : Outstanding × ℕ). IsCodedAt rec at (outstanding_bytes f.0) f.1 × IsSoundOutstanding user f.0) {x = made} (ok_is made found asks.rest)
      (joined moment.holds (joined (joined (joined version.holds older.holds) newer.holds) asks.holds), fits);
  again = λ rec at one next le p fits.
      let file : RequestFile = one.file in
      let m = apart rec at (moment_bytes one.at) (u16_bytes file.version ++ file_uid_bytes file.older ++ file_uid_bytes file.newer ++ asks_bytes file.asks) next le p in
      let a = apart rec m.mid (u16_bytes file.version ++ file_uid_bytes file.older ++ file_uid_bytes file.newer) (asks_bytes file.asks) next m.first.within m.second in
      let n = apart rec m.mid (u16_bytes file.version ++ file_uid_bytes file.older) (file_uid_bytes file.newer) a.mid m.first.within a.first in
      let o = apart rec m.mid (u16_bytes file.version) (file_uid_bytes file.older) n.mid m.first.within n.first in
      let asks : AreAsks file.asks = record { few = fits.file.few; bank_first = fits.file.bank_first; sound = fits.file.asks } in
      rw (
        moment_field.again rec at one.at m.mid le m.first fits.moment,
        version_field.again rec m.mid file.version o.mid m.first.within o.first fits.file.version,
        file_uid_field.again rec o.mid file.older n.mid o.first.within o.second fits.file.older,
        file_uid_field.again rec n.mid file.newer a.mid n.first.within n.second fits.file.newer,
        asks_field.again rec a.mid file.asks next a.first.within a.second asks,
      ) (ap (λ (x : Outstanding). Ok (x, next)) (same_file user one fits.user fits.pass));
}
