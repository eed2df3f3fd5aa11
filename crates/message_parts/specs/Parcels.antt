-- Messages and frames as they are put on a link.
use Rattle.std.specs.Prelude.{[]}
use Rattle.message_parts.specs.FramesByParts.{ParcelData, OutgoingData}
use Rattle.message_parts.specs.declared.parcel.Parcel.{Parcel}
use Rattle.message_parts.specs.declared.parcel.Parcel.TheVariants as parcels
use Rattle.message_parts.specs.declared.parcel.OutgoingParcel.{OutgoingParcel}
use Rattle.message_parts.specs.declared.parcel.OutgoingParcel.TheVariants as outgoings

-- a message has no parts
abbrev pub parcel_of : Parcel → ParcelData
parcel_of (parcels.Message message) = record { bytes = message; parts = [] }
parcel_of (parcels.Frame frame) = frame

abbrev pub outgoing_of : OutgoingParcel → OutgoingData
outgoing_of (outgoings.Message message) = record { left = message.left; taken = message.taken; parts = [] }
outgoing_of (outgoings.Frame frame) = frame
