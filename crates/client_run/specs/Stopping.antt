-- What is reported of the end of a run: its status, and the number that the line on the error stream has.
use Rattle.std.specs.Prelude.{ℕ, Result, Ok, Err}
use Rattle.ofx_ports.specs.declared.fault.PutFault.{PutFault}
use Rattle.ofx_ports.specs.declared.fault.PutFault.TheVariants as puts
use Rattle.ofx_ports.specs.declared.fault.FetchFault.{FetchFault}
use Rattle.ofx_ports.specs.declared.fault.FetchFault.TheVariants as fetches
use Rattle.ofx_types.specs.declared.fault.FileFault.{FileFault}
use Rattle.ofx_types.specs.declared.fault.FileFault.TheVariants as files
use Rattle.http_link.specs.declared.response.CallFault.{CallFault}
use Rattle.http_link.specs.declared.response.CallFault.TheVariants as links
use Rattle.client_saved.specs.declared.state.StoreFault.{StoreFault}
use Rattle.client_saved.specs.declared.state.StoreFault.TheVariants as texts
use Rattle.ofx_types.specs.declared.told.Note.{Note}
use Rattle.ofx_types.specs.declared.told.Note.TheVariants.{Plain, Place, Shape}
use Rattle.ofx_types.specs.declared.told.Told.{Told}
use Rattle.client_core.specs.declared.fault.ClientFault.{ClientFault}
use Rattle.client_core.specs.declared.fault.ClientFault.TheVariants as faults
use Rattle.client_run.specs.declared.stop.CallStop.{CallStop}
use Rattle.client_run.specs.declared.stop.CallStop.TheVariants as calls
use Rattle.client_run.specs.declared.stop.StoreOpenFault.{StoreOpenFault}
use Rattle.client_run.specs.declared.stop.StoreOpenFault.TheVariants as opens
use Rattle.client_run.specs.declared.stop.ClientStop.{ClientStop}
use Rattle.client_run.specs.declared.stop.ClientStop.TheVariants as stops

abbrev pub reported : ℕ → Note → Told
reported status note = record { status = record { 0 = status }; note = note }

-- the store is another client's or another user's, or has no number left; its text has no form; or it can't be read
abbrev pub reported_of_open : StoreOpenFault → Told
reported_of_open opens.NotOurs = reported 2 Plain
reported_of_open (opens.Bad at) = reported 15 (Place at)
reported_of_open opens.Failed = reported 8 Plain
reported_of_open opens.OutOfMemory = reported 7 Plain

abbrev pub reported_of_call : CallStop → Told
reported_of_call calls.ReadFailed = reported 5 Plain
reported_of_call calls.WriteFailed = reported 6 Plain
reported_of_call calls.NoMemory = reported 7 Plain
reported_of_call (calls.Http code) = reported 11 (Place code)
reported_of_call (calls.BadReply at) = reported 12 (Place at)
reported_of_call calls.BadHead = reported 16 Plain
reported_of_call (calls.Cut count) = reported 17 (Place count)

abbrev pub reported_of_refusal : ClientFault → Told
reported_of_refusal (faults.Shape number) = reported 12 (Shape number)
reported_of_refusal faults.NotMine = reported 13 Plain
reported_of_refusal (faults.Signon code) = reported 14 (Place code)
reported_of_refusal (faults.NoRow id) = reported 18 (Place id)
reported_of_refusal faults.BadName = reported 2 Plain
reported_of_refusal faults.OutOfMemory = reported 7 Plain

abbrev pub reported_of_save : PutFault → Told
reported_of_save puts.Failed = reported 8 Plain
reported_of_save puts.OutOfMemory = reported 7 Plain

abbrev pub reported_of_print : PutFault → Told
reported_of_print puts.Failed = reported 6 Plain
reported_of_print puts.OutOfMemory = reported 7 Plain

abbrev pub reported_of : Result (Unit {0}) ClientStop → Told
reported_of (Ok done) = reported 0 Plain
reported_of (Err (stops.Open fault)) = reported_of_open fault
reported_of (Err (stops.Call stop)) = reported_of_call stop
reported_of (Err (stops.Refused fault)) = reported_of_refusal fault
reported_of (Err (stops.Keep fault)) = reported_of_save fault
reported_of (Err (stops.Print fault)) = reported_of_print fault

-- ---- faults of what a run calls

abbrev pub open_fault : FetchFault → StoreOpenFault
open_fault fetches.Failed = opens.Failed
open_fault fetches.OutOfMemory = opens.OutOfMemory

abbrev pub text_fault : StoreFault → StoreOpenFault
text_fault (texts.Bad at) = opens.Bad at
text_fault texts.OutOfMemory = opens.OutOfMemory

abbrev pub call_stop : CallFault → CallStop
call_stop links.ReadFault = calls.ReadFailed
call_stop links.BadHead = calls.BadHead
call_stop (links.Cut count) = calls.Cut count
call_stop links.OutOfMemory = calls.NoMemory

abbrev pub body_stop : FileFault → CallStop
body_stop (files.Header at) = calls.BadReply at
body_stop (files.Syntax at) = calls.BadReply at
body_stop (files.Form at) = calls.BadReply at
body_stop files.OutOfMemory = calls.NoMemory
