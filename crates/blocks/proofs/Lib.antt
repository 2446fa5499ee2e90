-- The laws of Plain.
mod Words
